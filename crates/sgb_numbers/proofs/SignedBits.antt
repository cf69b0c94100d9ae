-- A signed number that fits its type, and the bits that a vector holds of it.
use Rattle.std.proofs.Common.{◌≡◌, ℕ, ◌+◌, ◌<◌, ◌≤◌, not, List, [], ◌∷◌, length, map, get_or, replicate, eqb, int_eq, ℤ, pos}
use Rattle.std.proofs.Common.{of_z, to_z, refl, sym, ap, ap₂, ◌∙◌, arith, inl, inr}
use Rattle.std.proofs.lemmas.Bool.{eqb-true, eq-eqb, false_from_ne_true, cases_Bool, false≢true}
use Rattle.std.proofs.lemmas.Bool.Decides.{Decides-int_eq}
use Rattle.std.proofs.lemmas.Int.{to_z-of_z}
use Rattle.std.proofs.lemmas.List.{length-map}
use Rattle.std.proofs.lemmas.Simd.{map-map, length-chunk, get_or-chunk, bitmask_splat, Each1-from_get_or}
use Rattle.std.specs.Int.{Width}
use Rattle.std.specs.Int.RustNames.{FitsSigned}
use Rattle.std.specs.Simd.Lanes.{Each1, zip2, chunk, mask_l}
use Rattle.sgb_numbers.specs.Numbers.{boundaries}
use Rattle.sgb_numbers.proofs.Vectors.{unequal, lanes_mask, boundaries-chunk, mask_of}

module _ (w : Width) (e : ℤ) (here : FitsSigned w e) where
  same_bits : (x : ℤ) → FitsSigned w x → not (eqb (of_z w x) (of_z w e)) ≡ not (int_eq x e)
  same_bits x there =
      let back = λ (same : of_z w x ≡ of_z w e). sym (to_z-of_z w x there) ∙ ap (to_z w) same ∙ to_z-of_z w e here in
      elim (cases_Bool (int_eq x e)) [
        | inl alike ↦ ap not (eq-eqb (of_z w x) (of_z w e) (ap (of_z w) ((Decides-int_eq x e).0 alike)) ∙ sym alike)
        | inr apart ↦ ap not
            (false_from_ne_true _ (λ equal. false≢true (sym apart ∙ (Decides-int_eq x e).1 (back (eqb-true (of_z w x) (of_z w e) equal))))
            ∙ sym apart)
      ]

  all_bits : (xs : List ℤ) → Each1 (FitsSigned w) xs → map (λ x. not (eqb (of_z w x) (of_z w e))) xs ≡ map (λ x. not (int_eq x e)) xs
  all_bits [] fits = refl
  all_bits (x ∷ xs) fits = ap₂ (λ b bs. b ∷ bs) (same_bits x fits.0) (all_bits xs fits.1)

  -- the mask of sixteen signed numbers
  pub signed_mask : (xs : List ℤ) (at : ℕ) → at + 16 ≤ length xs
      → ((k : ℕ) (d : ℤ) → at ≤ k → k < at + 16 → FitsSigned w (get_or xs k d))
      → lanes_mask w (unequal eqb) (map (of_z w) (chunk at 16 xs)) (replicate 16 (of_z w e))
      ≡ mask_l (map (λ x. not (int_eq x e)) (chunk at 16 xs))
  signed_mask xs at room fits =
      let v = chunk at 16 xs in
      let long = length-chunk at 16 xs room in
      let each = Each1-from_get_or (FitsSigned w) v e
      (λ i l. rw (get_or-chunk at 16 xs i e (omega arith)) (fits (at + i) e (omega arith) (omega arith))) in
      bitmask_splat w (λ a b. not (eqb a b)) (map (of_z w) v) 16 (of_z w e) (length-map v (of_z w) ∙ long) (omega arith)
      ∙ ap mask_l (map-map (λ x. not (eqb x (of_z w e))) (of_z w) v ∙ all_bits v each)

-- neighbouring signed numbers
module _ (w : Width) where
  same_tests : (xs ys : List ℤ) → Each1 (FitsSigned w) xs → Each1 (FitsSigned w) ys
      → zip2 (unequal eqb) (map (of_z w) xs) (map (of_z w) ys) ≡ zip2 (unequal int_eq) xs ys
  same_tests [] ys f g = refl
  same_tests (x ∷ xs) [] f g = refl
  same_tests (x ∷ xs) (y ∷ ys) f g = ap₂ (λ b bs. b ∷ bs) (same_bits w y g.0 x f.0) (same_tests xs ys f.1 g.1)

  module _ (xs : List ℤ) (at : ℕ) (room : at + 16 < length xs)
      (fits : (k : ℕ) (d : ℤ) → at ≤ k → k < at + 17 → FitsSigned w (get_or xs k d)) where
    abbrev held : ℕ → List ℕ
    held from = map (of_z w) (chunk from 16 xs)

    each : (from : ℕ) → at ≤ from → from ≤ at + 1 → Each1 (FitsSigned w) (chunk from 16 xs)
    each from l u =
        Each1-from_get_or (FitsSigned w) (chunk from 16 xs) (pos 0)
        (λ i few.
        let long = length-chunk from 16 xs (omega (arith, u, room)) in
        rw (get_or-chunk from 16 xs i (pos 0) (omega (arith, few, long)))
        (fits (from + i) (pos 0) (omega (arith, l)) (omega (arith, few, long, u))))

    long_of : (from : ℕ) → from ≤ at + 1 → length (held from) ≡ 16
    long_of from u = length-map (chunk from 16 xs) (of_z w) ∙ length-chunk from 16 xs (omega (arith, u, room))

    tests_are : zip2 (unequal eqb) (held at) (held (at + 1)) ≡ chunk at 16 (boundaries int_eq xs)
    tests_are =
        same_tests (chunk at 16 xs) (chunk (at + 1) 16 xs) (each at (omega arith) (omega arith)) (each (at + 1) (omega arith) (omega arith))
        ∙ sym (boundaries-chunk int_eq at 16 xs)

    pub signed_cuts : lanes_mask w (unequal eqb) (held at) (held (at + 1)) ≡ mask_l (chunk at 16 (boundaries int_eq xs))
    signed_cuts =
        mask_of w (unequal eqb) (held at) (held (at + 1)) (long_of at (omega arith)) (long_of (at + 1) (omega arith)) ∙ ap mask_l tests_are
