-- Numbers that are written as texts.
use Rattle.std.specs.Prelude.{ℕ, ◌^◌, ◌&&◌, List, length, nat_lt, if◌then◌else◌, Option, None, Some, Ok}
use Rattle.std.specs.Str.{all_ascii_digits}
use Rattle.std.specs.Str.Parse.{ParsesUnsigned, digits_value, without_leading_plus}

-- the text is the number n, of so many bits
abbrev pub IsNumber : ℕ → List ℕ → ℕ → Type 0
IsNumber bits text n = ParsesUnsigned {E = Unit {0}} bits 10 text (Ok n)

-- the number of so many bits that a text is: one digit or more, and nothing else; and where a plus may stand first
abbrev pub digits_in : ℕ → List ℕ → Option ℕ
digits_in bits text =
    if all_ascii_digits text && nat_lt 0 (length text) && nat_lt (digits_value 10 text) (2 ^ bits)
    then Some (digits_value 10 text)
    else None

abbrev pub number_in : ℕ → List ℕ → Option ℕ
number_in bits text = digits_in bits (without_leading_plus text)
