-- What a mask of some pairs says of each.
use Rattle.std.proofs.Common.{◌≡◌, ℕ, ◌+◌, ◌^◌, ◌<◌, cond, Bool, true, false, List, length, get_or, take}
use Rattle.std.proofs.Common.{drop-cons, sym, ap, ◌∙◌, subst, arith}
use Rattle.std.proofs.lemmas.Simd.{length-chunk, get_or-chunk, mask_l-lt}
use Rattle.std.specs.Int.{bit_at}
use Rattle.std.specs.Simd.Lanes.{mask_l, chunk}
use Rattle.sgb_numbers.specs.Numbers.{boundaries, differs}
use Rattle.sgb_numbers.proofs.Bits.{passed, is_set, inside}
use Rattle.sgb_numbers.proofs.Pairs.{length-boundaries}

module _ {T : Type 0} (eq : T → T → Bool) (xs : List T) (at w c : ℕ) where
  -- bit j of c tells whether the pair at + j differs, for w pairs
  pub record Marks : Type 0 where
    pub few : c < 2 ^ w
    pub sound : (j : ℕ) → bit_at c j ≡ 1 → (j < w) × (differs eq xs (at + j) ≡ true)
    pub complete : (j : ℕ) → j < w → differs eq xs (at + j) ≡ true → bit_at c j ≡ 1

  abbrev tests : List Bool
  tests = chunk at w (boundaries eq xs)

  module _ (room : at + w < length xs) where
    long : length tests ≡ w
    long = length-chunk at w (boundaries eq xs) (omega (arith, length-boundaries eq xs))

    read : (j : ℕ) → j < w → get_or tests j false ≡ differs eq xs (at + j)
    unfolding differs
    read j l = get_or-chunk at w (boundaries eq xs) j false l

    pub marks_of : c ≡ mask_l tests → Marks
    marks_of e = record {
      few = subst (λ (n : ℕ). c < 2 ^ n) long (omega (arith, e, mask_l-lt tests));
      sound =
          λ j set.
          let l : j < w = omega (arith, inside tests c e j set, long) in
          (l, sym (read j l) ∙ passed tests c e j set);
      complete = λ j l hit. is_set tests c e j (read j l ∙ hit);
    }

-- one pair
pub mask_one : {T : Type 0} (eq : T → T → Bool) (xs : List T) (at c : ℕ) → at + 1 < length xs → c ≡ cond (differs eq xs at) 1 0
    → c ≡ mask_l (chunk at 1 (boundaries eq xs))
unfolding differs
mask_one eq xs at c l e =
    let first = drop-cons (boundaries eq xs) at false (omega (arith, l, length-boundaries eq xs)) in
    omega (arith, e, ap (λ bs. mask_l (take 1 bs)) first)
