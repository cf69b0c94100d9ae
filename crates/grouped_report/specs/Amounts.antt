-- Amounts: exact decimal numbers, as whole numbers of billionths.
use Rattle.std.specs.Prelude.{ℕ, ◌+◌, ◌-◌, ◌*◌, ◌/◌, ◌%◌, ◌^◌, ℤ, pos, negsuc, Bool, ◌==◌, nat_le}
use Rattle.std.specs.Prelude.{List, [], ◌∷◌, ◌++◌, length, take, drop, zero, suc, decimal, if◌then◌else◌, Option, None, Some, option_map}
use Rattle.std.specs.List.{position}
use Rattle.std.specs.Str.Parse.{starts_with_minus, without_leading_sign}
use Rattle.fast_float.specs.Text.{with_sign}
use Rattle.program_parts.specs.Decimals.{digits_in}

-- how many billionths one to nine digits behind a point are
abbrev pub billionths_of : List ℕ → Option ℕ
billionths_of digits = if nat_le (length digits) 9 then option_map (λ n. n * 10 ^ (9 - length digits)) (digits_in 64 digits) else None

-- the byte of a point
abbrev pub is_point : ℕ → Bool
is_point byte = byte == 46

-- a whole number and billionths, as billionths, if there are both
abbrev pub billionths_in : Option ℕ → Option ℕ → Option ℕ
billionths_in None behind = None
billionths_in (Some whole) None = None
billionths_in (Some whole) (Some behind) = Some (whole * 10 ^ 9 + behind)

-- the size that a text is, given the place of its first point: a number before it, and one to nine digits behind it
abbrev pub size_at : List ℕ → Option ℕ → Option ℕ
size_at text None = billionths_in (digits_in 64 text) (Some 0)
size_at text (Some point) = billionths_in (digits_in 64 (take point text)) (billionths_of (drop (point + 1) text))

-- the size that a text with no sign is, in billionths
abbrev pub size_of : List ℕ → Option ℕ
size_of text = size_at text (position is_point text)

-- The amount that a text is: a sign perhaps, and a size.
abbrev pub amount_of : List ℕ → Option ℤ
amount_of text = option_map (with_sign (starts_with_minus text)) (size_of (without_leading_sign text))

-- What a field is: no amount if it is empty, and else an amount.
abbrev pub amount_in : List ℕ → Option (Option ℤ)
amount_in [] = Some None
amount_in (byte ∷ bytes) = option_map Some (amount_of (byte ∷ bytes))

-- the digits of a number below 10 ^ places, as they stand behind a point: with no zero at the end
unfoldable pub digits_behind : ℕ → ℕ → List ℕ
digits_behind zero n = []
digits_behind (suc places) n = if n == 0 then [] else (48 + n / 10 ^ places) ∷ digits_behind places (n % 10 ^ places)

-- the text of a size: with no point if it is whole, and else with no zero at the end
abbrev pub size_text : ℕ → List ℕ
size_text n = decimal (n / 10 ^ 9) ++ (if n % 10 ^ 9 == 0 then [] else 46 ∷ digits_behind 9 (n % 10 ^ 9))

-- the text of an amount
abbrev pub amount_text : ℤ → List ℕ
amount_text (pos n) = size_text n
amount_text (negsuc n) = 45 ∷ size_text (suc n)

-- the text of a sum, which is empty where there is no amount
abbrev pub sum_text : Option ℤ → List ℕ
sum_text None = []
sum_text (Some amount) = amount_text amount
