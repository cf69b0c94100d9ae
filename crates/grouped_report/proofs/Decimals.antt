-- The text of an amount, as it is read and written.
use Rattle.std.proofs.Common.{◌≡◌, ℕ, ◌+◌, ◌-◌, ◌*◌, ◌/◌, ◌%◌, ◌<◌, ◌≤◌, ◌^◌, ◌==◌, List, []}
use Rattle.std.proofs.Common.{Bool, true, false, ◌∷◌, ◌++◌, length, refl, sym, ap, ◌∙◌, arith, suc, zero}
use Rattle.std.proofs.Common.{append_assoc, append-nil}
use Rattle.std.specs.Prelude.{Some, None, IfSome, ◌&&◌, if◌then◌else◌}
use Rattle.std.specs.Str.Parse.{digits_value}
use Rattle.std.proofs.Math.Nat.{mul-le-mul_left, mul-lt-mul_of_pos_right}
use Rattle.std.proofs.lemmas.Bool.Decides.{nat_tests}
use Rattle.std.proofs.lemmas.Nat.{pow-add, div_below}
use Rattle.std.proofs.lemmas.Str.Parse.{digits_value_short}
use Rattle.program_parts.proofs.Decimals.{digits_model}
use Rattle.program_parts.specs.Decimals.{digits_in}
use Rattle.grouped_report.specs.Amounts.{digits_behind}

-- digits write less than the power of ten with as many zeros
pub number_small : (text : List ℕ) → IfSome (digits_in 64 text) (λ n. n < 10 ^ length text)
number_small text = by _ (λ is. digits_value_short digits_model text (length text) (first_true _ _ _ is) (omega arith))
  where
    first_true : (a b c : Bool) → (a && b && c) ≡ true → a ≡ true
    first_true true b c is = refl
    first_true false b c is = is

    by : (b : Bool) → (b ≡ true → digits_value 10 text < 10 ^ length text)
        → IfSome (if b then Some (digits_value 10 text) else None) (λ n. n < 10 ^ length text)
    by true less = less refl
    by false less = tt

pub tens_pos : (k : ℕ) → 0 < 10 ^ k
tens_pos zero = omega arith
tens_pos (suc k) = let h = tens_pos k in omega (arith, h)

tens_split : (j k : ℕ) → j ≤ k → 10 ^ j * 10 ^ (k - j) ≡ 10 ^ k
tens_split j k few = sym (pow-add 10 j (k - j)) ∙ ap (λ (i : ℕ). 10 ^ i) (omega arith)

pub tens_grow : (j k : ℕ) → j ≤ k → 10 ^ j ≤ 10 ^ k
tens_grow j k few = omega (arith, tens_split j k few, mul-le-mul_left (10 ^ j) (tens_pos (k - j)))

-- a number of so many digits, with zeros up to nine
pub digits_fit : (n a : ℕ) → n < 10 ^ a → a ≤ 9 → n * 10 ^ (9 - a) < 10 ^ 9
digits_fit n a small few = rw (tens_split a 9 few) at (mul-lt-mul_of_pos_right small (tens_pos (9 - a)))

-- a number that is not 0 has a first place, and a digit there
pub first_place : (k n : ℕ) → n < 10 ^ k → 0 < n → (0 < k) × (n / 10 ^ (k - 1) < 10)
    × (digits_behind k n ≡ (48 + n / 10 ^ (k - 1)) ∷ digits_behind (k - 1) (n % 10 ^ (k - 1)))
unfolding digits_behind
first_place zero n small some = absurd (omega arith)
first_place (suc k) n small some =
    let one : suc k - 1 ≡ k = omega arith in
    let e : (n == 0) ≡ false = grind (arith, nat_tests) in
    rw one (omega arith, div_below n (10 ^ k) 10 (tens_pos k) (omega arith), rw e refl)

pub push_step : (all old new : List ℕ) (k n unit : ℕ) → n < 10 ^ k → 0 < n → unit ≡ 10 ^ (k - 1) → new ≡ old ++ (48 + n / unit) ∷ []
    → old ++ digits_behind k n ≡ all → new ++ digits_behind (k - 1) (n % unit) ≡ all
push_step all old new k n unit small some is pushed same =
    rw (pushed, is) (append_assoc old ((48 + n / 10 ^ (k - 1)) ∷ []) (digits_behind (k - 1) (n % 10 ^ (k - 1)))
    ∙ ap (λ l. old ++ l) (sym (first_place k n small some).2) ∙ same)

-- no digit writes 0
pub push_end : (all old : List ℕ) (k n : ℕ) → n ≡ 0 → old ++ digits_behind k n ≡ all → old ≡ all
unfolding digits_behind
push_end all old k n none same = sym (append-nil old) ∙ ap (λ l. old ++ l) (by k ∙ ap (digits_behind k) (sym none)) ∙ same
  where
    by : (k : ℕ) → [] ≡ digits_behind k 0
    by zero = refl
    by (suc k) = refl
