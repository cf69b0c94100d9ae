-- Decimal numbers, which need no quotes and parse as themselves.
use Rattle.std.proofs.Common.{◌≡◌, ◌≢◌, ℕ, ◌<◌, ◌^◌, false, List, [], ◌∷◌, ◌++◌, get_or, decimal, subst, arith, refl}
use Rattle.std.proofs.Common.{Some, ◌==◌}
use Rattle.std.specs.Char.{digit_value}
use Rattle.std.specs.List.{list_any}
use Rattle.std.specs.Str.Parse.{AllDigits, IsNumeral}
use Rattle.std.proofs.lemmas.Bool.{ne_eqb}
use Rattle.std.proofs.lemmas.Fmt.{decimal_is_IsNumeral}
use Rattle.std.proofs.lemmas.Str.Parse.{without_leading_plus_none}
use Rattle.csv.specs.Reading.{strip_bom}
use Rattle.csv.specs.Writing.{default_writer, field_text, needs_byte}
use Rattle.program_parts.proofs.Decimals.{decimal_read}
use Rattle.program_parts.specs.Decimals.{number_in}

-- a digit is no byte whose value is not below 10
not_byte : (b c : ℕ) → digit_value b ≡ 36 → digit_value c < 10 → c ≢ b
not_byte b c none digit e = let P : ℕ → Type 0 = λ x. digit_value x < 10 in let k : digit_value b < 10 = subst P e digit in omega
    (arith, none)

no_quotes : (ds : List ℕ) → AllDigits 10 ds → list_any (needs_byte default_writer) ds ≡ false
no_quotes [] h = refl
no_quotes (c ∷ cs) h =
    rw (
      ne_eqb c 44 (not_byte 44 c refl h.0),
      ne_eqb c 34 (not_byte 34 c refl h.0),
      ne_eqb c 13 (not_byte 13 c refl h.0),
      ne_eqb c 10 (not_byte 10 c refl h.0),
    ) (no_quotes cs h.1)

-- a number is written as it is
pub number_text : (n : ℕ) → n < 2 ^ 64 → field_text default_writer (decimal n) ≡ decimal n
number_text n fits = rw (no_quotes (decimal n) (decimal_is_IsNumeral n fits).0.1) refl

plain_start : (c : ℕ) (cs : List ℕ) → (c == 239) ≡ false → strip_bom (c ∷ cs) ≡ c ∷ cs
unfolding strip_bom
plain_start c [] e = refl
plain_start c (d ∷ []) e = refl
plain_start c (d ∷ x ∷ rest) e = rw e refl

numeral_start : (ds rest : List ℕ) → IsNumeral 10 ds → strip_bom (ds ++ rest) ≡ ds ++ rest
numeral_start [] rest h = absurd (omega (arith, h.0))
numeral_start (c ∷ cs) rest h = plain_start c (cs ++ rest) (ne_eqb c 239 (not_byte 239 c refl h.1.0))

-- a text that begins with a number has no byte order mark
pub number_start : (n : ℕ) (rest : List ℕ) → n < 2 ^ 64 → strip_bom (decimal n ++ rest) ≡ decimal n ++ rest
number_start n rest fits = numeral_start (decimal n) rest (decimal_is_IsNumeral n fits).0

first_digit : (ds : List ℕ) → IsNumeral 10 ds → get_or ds 0 0 ≢ 43
first_digit [] h = absurd (omega (arith, h.0))
first_digit (c ∷ cs) h = not_byte 43 c refl h.1.0

-- a number is read as itself
pub number_read : (k n : ℕ) → n < 2 ^ k → n < 2 ^ 64 → number_in k (decimal n) ≡ Some n
number_read k n small fits =
    rw (without_leading_plus_none (decimal n) (first_digit (decimal n) (decimal_is_IsNumeral n fits).0)) (decimal_read k n small fits)
