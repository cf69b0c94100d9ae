-- The bits of a mask tell the tests that it is made of.
use Rattle.std.proofs.Common.{◌≡◌, ℕ, ◌<◌, cond, Bool, true, false, List, length, get_or, refl, sym, ap, ◌∙◌, arith, ⊎_elim}
use Rattle.std.proofs.lemmas.Bool.{cases_lt, cond-true, false≢true}
use Rattle.std.proofs.lemmas.List.{get_or_past}
use Rattle.std.proofs.lemmas.Simd.{bit_mask_l}
use Rattle.std.specs.Int.{bit_at}
use Rattle.std.specs.Simd.Lanes.{mask_l}

one_is_true : (b : Bool) → cond {A = ℕ} b 1 0 ≡ 1 → b ≡ true
one_is_true true e = refl
one_is_true false e = absurd (omega arith)

zero_is_false : (b : Bool) → cond {A = ℕ} b 1 0 ≡ 0 → b ≡ false
zero_is_false true e = absurd (omega arith)
zero_is_false false e = refl

module _ (bs : List Bool) (m : ℕ) (mask : m ≡ mask_l bs) (i : ℕ) where
  bit : bit_at m i ≡ cond (get_or bs i false) 1 0
  bit = ap (λ (n : ℕ). bit_at n i) mask ∙ bit_mask_l bs i

  pub passed : bit_at m i ≡ 1 → get_or bs i false ≡ true
  passed set = one_is_true (get_or bs i false) (sym bit ∙ set)

  pub failed : bit_at m i ≡ 0 → get_or bs i false ≡ false
  failed clear = zero_is_false (get_or bs i false) (sym bit ∙ clear)

  pub is_set : get_or bs i false ≡ true → bit_at m i ≡ 1
  is_set hit = bit ∙ cond-true {A = ℕ} (get_or bs i false) 1 0 hit

  pub inside : bit_at m i ≡ 1 → i < length bs
  inside set =
      ⊎_elim (λ l. l) (λ past. absurd (false≢true (sym (get_or_past bs i false past) ∙ passed set))) (cases_lt i (length bs))
