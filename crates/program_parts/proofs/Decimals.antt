-- Numbers that are written as texts.
use Rattle.std.proofs.Common.{◌≡◌, ℕ, ◌<◌, ◌^◌, List, length, true, Result, Ok, Err, decimal, ap, sym, ◌∙◌, arith}
use Rattle.std.specs.Prelude.{Some}
use Rattle.std.specs.Result.{OkIff, result_ok}
use Rattle.std.specs.Str.{all_ascii_digits}
use Rattle.std.specs.Str.Parse.{IsNumeral, ParsesUnsigned, digits_value, without_leading_plus}
use Rattle.std.proofs.lemmas.Bool.Decides.{nat_tests}
use Rattle.std.proofs.lemmas.Fmt.{decimal_is_IsNumeral}
use Rattle.std.proofs.lemmas.Str.Parse.{IsNumeralModel, numerals_by_value, tells_all_ascii_digits}
use Rattle.program_parts.specs.Decimals.{digits_in, number_in}

-- std's lemmas on digits, for the words of the specification
pub digits_model : IsNumeralModel (λ ds. all_ascii_digits ds ≡ true) (digits_value 10)
digits_model = numerals_by_value _ tells_all_ascii_digits

pub digits_read : (k : ℕ) (text : List ℕ) → all_ascii_digits text ≡ true → 0 < length text → digits_value 10 text < 2 ^ k
    → digits_in k text ≡ Some (digits_value 10 text)
digits_read k text all some small = rw all (grind (arith, nat_tests))

-- a number is read as itself
pub decimal_read : (k n : ℕ) → n < 2 ^ k → n < 2 ^ 64 → digits_in k (decimal n) ≡ Some n
decimal_read k n small fits =
    let (numeral, value) = decimal_is_IsNumeral n fits in
    digits_read k (decimal n) (digits_model.from _ numeral.1) numeral.0 (rw value small) ∙ ap Some value

digits_parsed : {E : Type 0} (k : ℕ) (text : List ℕ) (r : Result ℕ E)
    → OkIff r (IsNumeral 10 text × (digits_value 10 text < 2 ^ k)) (digits_value 10 text) → result_ok r ≡ digits_in k text
digits_parsed k text (Ok n) is = ap Some is.1 ∙ sym (digits_read k text (digits_model.from text is.0.0.1) is.0.0.0 is.0.1)
digits_parsed k text (Err e) none =
    let refused : ¬ ((all_ascii_digits text ≡ true) × (0 < length text) × (digits_value 10 text < 2 ^ k)) =
    λ is. none ((is.1, digits_model.to text is.0), is.2) in
    grind (arith, nat_tests)

-- what a parse gives is the number
pub number_parsed : {E : Type 0} (k : ℕ) (text : List ℕ) (r : Result ℕ E) → ParsesUnsigned k 10 text r → result_ok r ≡ number_in k text
number_parsed k text r read = digits_parsed k (without_leading_plus text) r read
