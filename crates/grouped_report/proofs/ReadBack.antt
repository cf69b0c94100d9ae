-- The text of an amount is read back.
use Rattle.std.proofs.Common.{◌≡◌, ℕ, ◌+◌, ◌-◌, ◌*◌, ◌/◌, ◌%◌, ◌<◌, ◌≤◌, ◌^◌, ◌==◌, Bool, true, false}
use Rattle.std.proofs.Common.{List, [], ◌∷◌, ◌++◌, length, Some, refl, ap, ◌∙◌, arith, suc, zero, decimal, append-nil, append_assoc, subst}
use Rattle.std.specs.Char.{digit_value, is_ascii_digit}
use Rattle.std.specs.Prelude.{ℤ, pos, negsuc, unsigned_abs, Option, None, IfSome, if◌then◌else◌, nat_le, option_map}
use Rattle.std.specs.List.{position, position_or_len}
use Rattle.std.specs.Str.{all_ascii_digits}
use Rattle.std.specs.Str.Parse.{IsNumeral, digits_value_after}
use Rattle.std.proofs.lemmas.Bool.Decides.{nat_tests}
use Rattle.std.proofs.lemmas.Bool.{ne_eqb}
use Rattle.std.proofs.lemmas.Fmt.{decimal_is_IsNumeral, digits_decimal}
use Rattle.std.proofs.lemmas.List.{drop_at, length-append, take_at}
use Rattle.std.proofs.lemmas.Str.Parse.{digit_from_value, digits_value_short, tells_all_ascii_digits}
use Rattle.std.proofs.lemmas.Nat.{div-add-mod', div_below, mod_below}
use Rattle.fast_float.specs.Text.{with_sign}
use Rattle.program_parts.proofs.Decimals.{decimal_read, digits_model, digits_read}
use Rattle.program_parts.specs.Decimals.{digits_in}
use Rattle.grouped_report.proofs.Decimals.{tens_pos}
use Rattle.grouped_report.specs.Amounts.{amount_in, amount_of, billionths_in, billionths_of, is_point, size_of}
use Rattle.grouped_report.specs.Amounts.{amount_text, digits_behind, size_text, sum_text}

-- a digit is read as its value
digit_read : (d : ℕ) → d < 10 → (is_ascii_digit (48 + d) ≡ true) × (digit_value (48 + d) ≡ d)
digit_read d small = (grind (arith, nat_tests), grind (arith, nat_tests))

-- what reading needs of the digits behind a point that write n: a number below 10 ^ places
record IsWritten (places n : ℕ) (digits : List ℕ) : Type 0 where
  all : all_ascii_digits digits ≡ true
  few : length digits ≤ places
  some : 0 < n → 0 < length digits
  value : (a : ℕ) → digits_value_after 10 a digits * 10 ^ (places - length digits) ≡ a * 10 ^ places + n

none_written : (k : ℕ) → IsWritten k 0 []
none_written k =
    let all : k - 0 ≡ k = omega arith in
    record { all = refl; few = omega arith; some = λ h. h; value = λ a. rw all (omega arith) }

-- one place more, in front
place : (a q p r n : ℕ) → q * p + r ≡ n → (a * 10 + q) * p + r ≡ a * (10 * p) + n
place a q p r n is = omega arith

one_written : (k n : ℕ) (ds : List ℕ) → n < 10 ^ suc k → IsWritten k (n % 10 ^ k) ds → IsWritten (suc k) n ((48 + n / 10 ^ k) ∷ ds)
one_written k n ds small rest =
    let digit = digit_read (n / 10 ^ k) (div_below n (10 ^ k) 10 (tens_pos k) (omega arith)) in
    let less : suc k - length ((48 + n / 10 ^ k) ∷ ds) ≡ k - length ds = omega arith in
    let ten : 10 ^ suc k ≡ 10 * 10 ^ k = omega arith in
    record {
      all = rw (digit.0, rest.all) refl;
      few = omega (arith, rest.few);
      some = λ _. omega arith;
      value = λ a. rw (less, digit.1, ten)
          (rest.value (a * 10 + n / 10 ^ k) ∙ place a (n / 10 ^ k) (10 ^ k) (n % 10 ^ k) n (div-add-mod' n (10 ^ k)));
    }

written : (k n : ℕ) → n < 10 ^ k → IsWritten k n (digits_behind k n)
unfolding digits_behind
written zero n small =
    let none : n ≡ 0 = omega arith in
    rw none (none_written 0)
written (suc k) n small = by (n == 0) refl (written k (n % 10 ^ k) (mod_below n (10 ^ k) (tens_pos k)))
  where
    by : (none : Bool) → (n == 0) ≡ none → IsWritten k (n % 10 ^ k) (digits_behind k (n % 10 ^ k))
        → IsWritten (suc k) n (if none then [] else ((48 + n / 10 ^ k) ∷ digits_behind k (n % 10 ^ k)))
    by true is rest = let none : n ≡ 0 = grind (arith, nat_tests) in rw none (none_written (suc k))
    by false is rest = one_written k n _ small rest

-- billionths are read from the digits behind the point
behind_read : (n : ℕ) → 0 < n → n < 10 ^ 9 → billionths_of (digits_behind 9 n) ≡ Some n
behind_read n some small =
    let is = written 9 n small in
    let e : nat_le (length (digits_behind 9 n)) 9 ≡ true = grind (arith, nat_tests, is.few) in
    let less = digits_value_short digits_model (digits_behind 9 n) 9 is.all is.few in
    rw (e, digits_read 64 _ is.all (is.some some) (omega (arith, less))) (ap Some (is.value 0 ∙ omega arith))

-- no digit is a point
point_behind : (digits rest : List ℕ) → all_ascii_digits digits ≡ true
    → position_or_len is_point (digits ++ rest) ≡ length digits + position_or_len is_point rest
point_behind [] rest all = omega arith
point_behind (c ∷ cs) rest all =
    let parts = tells_all_ascii_digits.parts c cs all in
    let no : (c == 46) ≡ false = ne_eqb c 46 (λ is. omega (arith, parts.0)) in
    rw no (omega (arith, point_behind cs rest parts.1))

-- with no point, and with one
whole_alone : (digits : List ℕ) → all_ascii_digits digits ≡ true → size_of digits ≡ billionths_in (digits_in 64 digits) (Some 0)
whole_alone digits all =
    let at = subst (λ l. position_or_len is_point l ≡ length digits + 0) (append-nil digits) (point_behind digits [] all) in
    let none : position is_point digits ≡ None = grind (arith, nat_tests) in
    rw none refl

whole_and_behind : (digits behind : List ℕ) → all_ascii_digits digits ≡ true
    → size_of (digits ++ 46 ∷ behind) ≡ billionths_in (digits_in 64 digits) (billionths_of behind)
whole_and_behind digits behind all =
    let at : position_or_len is_point (digits ++ 46 ∷ behind) ≡ length digits + 0 = point_behind digits (46 ∷ behind) all in
    let more = length-append digits (46 ∷ behind) in
    let some : position is_point (digits ++ 46 ∷ behind) ≡ Some (length digits) = grind (arith, nat_tests) in
    let rest = drop_at (digits ++ 46 ∷ []) behind (length digits + 1) (length-append digits (46 ∷ [])) in
    rw (some, take_at digits (46 ∷ behind) (length digits) refl, rw append_assoc at rest) refl

parts_read : (whole behind : ℕ) → whole < 2 ^ 64 → behind < 10 ^ 9
    → size_of (decimal whole ++ (if behind == 0 then [] else 46 ∷ digits_behind 9 behind)) ≡ Some (whole * 10 ^ 9 + behind)
parts_read whole behind fits small = by (behind == 0) refl
  where
    all : all_ascii_digits (decimal whole) ≡ true
    all = digits_decimal digits_model whole fits

    by : (none : Bool) → (behind == 0) ≡ none
        → size_of (decimal whole ++ (if none then [] else 46 ∷ digits_behind 9 behind)) ≡ Some (whole * 10 ^ 9 + behind)
    by true is =
        let none : behind ≡ 0 = grind (arith, nat_tests) in
        rw (append-nil (decimal whole), whole_alone (decimal whole) all, decimal_read 64 whole fits fits, none) refl
    by false is =
        let some : 0 < behind = grind (arith, nat_tests) in
        rw (whole_and_behind (decimal whole) (digits_behind 9 behind) all, decimal_read 64 whole fits fits, behind_read behind some small)
        refl

size_read : (n : ℕ) → n / 10 ^ 9 < 2 ^ 64 → size_of (size_text n) ≡ Some n
size_read n fits = parts_read (n / 10 ^ 9) (n % 10 ^ 9) fits (mod_below n (10 ^ 9) (omega arith)) ∙ ap Some (div-add-mod' n (10 ^ 9))

-- no digit is a sign
no_sign : (digits rest : List ℕ) (n : ℕ) → IsNumeral 10 digits → size_of (digits ++ rest) ≡ Some n
    → amount_of (digits ++ rest) ≡ Some (pos n)
no_sign [] rest n numeral is = absurd (omega (arith, numeral.0))
no_sign (c ∷ cs) rest n numeral is =
    let digit = digit_from_value c numeral.1.0 in
    let minus : (c == 45) ≡ false = ne_eqb c 45 (λ is. omega (arith, digit)) in
    let plus : (c == 43) ≡ false = ne_eqb c 43 (λ is. omega (arith, digit)) in
    rw (minus, plus) (ap (option_map (with_sign false)) is)

pub amount_read : (z : ℤ) → unsigned_abs z / 10 ^ 9 < 2 ^ 64 → amount_of (amount_text z) ≡ Some z
amount_read (pos n) fits = no_sign (decimal (n / 10 ^ 9)) _ n (decimal_is_IsNumeral (n / 10 ^ 9) fits).0 (size_read n fits)
amount_read (negsuc n) fits = ap (option_map (with_sign true)) (size_read (suc n) fits)

pub sum_read : (sum : Option ℤ) → IfSome sum (λ z. unsigned_abs z / 10 ^ 9 < 2 ^ 64) → amount_in (sum_text sum) ≡ Some sum
sum_read None fits = refl
sum_read (Some z) fits = by (amount_text z) (amount_read z fits)
  where
    by : (text : List ℕ) → amount_of text ≡ Some z → amount_in text ≡ Some (Some z)
    by [] is = absurd cc
    by (c ∷ cs) is = ap (option_map Some) is
