-- The mask of two vectors of neighbours.
use Rattle.std.proofs.Common.{◌≡◌, ℕ, zero, suc, ◌+◌, ◌-◌, ◌%◌, ◌^◌, ◌<◌, ◌≤◌, not, cond, Bool, List, [], ◌∷◌, length, map, take}
use Rattle.std.proofs.Common.{drop, refl, sym, ap, ◌∙◌, arith}
use Rattle.std.proofs.lemmas.List.{drop-drop}
use Rattle.std.proofs.lemmas.Simd.{length-chunk, length-zip2, tops_compared, mask_l-mod, bitmask_splat}
use Rattle.std.specs.Prelude.{replicate}
use Rattle.std.specs.Int.{Width}
use Rattle.std.specs.Simd.Lanes.{zip2, chunk, mask_l, top}
use mir.Val.{bits, hbits}
use Rattle.sgb_numbers.specs.Numbers.{boundaries}

module _ {X Y Z : Type 0} (f : X → Y → Z) where
  zip2-take : (n : ℕ) (xs : List X) (ys : List Y) → take n (zip2 f xs ys) ≡ zip2 f (take n xs) (take n ys)
  zip2-take zero xs ys = refl
  zip2-take (suc n) [] ys = refl
  zip2-take (suc n) (x ∷ xs) [] = refl
  zip2-take (suc n) (x ∷ xs) (y ∷ ys) = ap (λ zs. f x y ∷ zs) (zip2-take n xs ys)

  zip2_none : (xs : List X) → zip2 f xs [] ≡ []
  zip2_none [] = refl
  zip2_none (x ∷ xs) = refl

  zip2-drop : (n : ℕ) (xs : List X) (ys : List Y) → drop n (zip2 f xs ys) ≡ zip2 f (drop n xs) (drop n ys)
  zip2-drop zero xs ys = refl
  zip2-drop (suc n) [] ys = refl
  zip2-drop (suc n) (x ∷ xs) [] = sym (zip2_none (drop n xs))
  zip2-drop (suc n) (x ∷ xs) (y ∷ ys) = zip2-drop n xs ys

module _ {T : Type 0} (eq : T → T → Bool) where
  abbrev pub unequal : T → T → Bool
  unequal a b = not (eq a b)

  pub boundaries-zip2 : (xs : List T) → boundaries eq xs ≡ zip2 unequal xs (drop 1 xs)
  boundaries-zip2 [] = refl
  boundaries-zip2 (x ∷ []) = refl
  boundaries-zip2 (x ∷ y ∷ ys) = ap (λ bs. unequal x y ∷ bs) (boundaries-zip2 (y ∷ ys))

  pub boundaries-chunk : (at n : ℕ) (xs : List T) → chunk at n (boundaries eq xs) ≡ zip2 unequal (chunk at n xs) (chunk (at + 1) n xs)
  boundaries-chunk at n xs =
      ap (chunk at n) (boundaries-zip2 xs) ∙ ap (take n) (zip2-drop unequal at xs (drop 1 xs))
      ∙ zip2-take unequal n (drop at xs) (drop at (drop 1 xs))
      ∙ ap (λ zs. zip2 unequal (chunk at n xs) (take n zs))
      (drop-drop at 1 xs ∙ ap (λ (k : ℕ). drop k xs) {x = 1 + at} {y = at + 1} (omega arith))

-- which lanes of two vectors pass a test, as the code computes it
abbrev pub lanes_mask : {X : Type 0} → Width → (X → X → Bool) → List X → List X → ℕ
lanes_mask w t xs ys = mask_l (map (top (hbits w)) (zip2 (λ a b. cond (t a b) (2 ^ bits w - 1) 0) xs ys)) % 2 ^ 64

-- the mask of two vectors
module _ {X : Type 0} (w : Width) (t : X → X → Bool) (us vs : List X) (first : length us ≡ 16) (second : length vs ≡ 16) where
  pub mask_of : lanes_mask w t us vs ≡ mask_l (zip2 t us vs)
  mask_of =
      ap (λ bs. mask_l bs % 2 ^ 64) (tops_compared w t us vs)
      ∙ mask_l-mod (zip2 t us vs) 64 (omega (arith, length-zip2 t us vs (first ∙ sym second), first))

-- numbers that a vector holds as they are
module _ {X : Type 0} (w : Width) (eq : X → X → Bool) (xs : List X) (at : ℕ) (room : at + 16 < length xs) where
  abbrev first_of : List X
  first_of = chunk at 16 xs

  abbrev second_of : List X
  second_of = chunk (at + 1) 16 xs

  long_first : length first_of ≡ 16
  long_first = length-chunk at 16 xs (omega arith)

  long_second : length second_of ≡ 16
  long_second = length-chunk (at + 1) 16 xs (omega arith)

  pub mask_is : lanes_mask w (unequal eq) first_of second_of ≡ mask_l (chunk at 16 (boundaries eq xs))
  mask_is = mask_of w (unequal eq) first_of second_of long_first long_second ∙ ap mask_l (sym (boundaries-chunk eq at 16 xs))

-- and one number in each lane
pub unlike_is : {X : Type 0} (w : Width) (eq : X → X → Bool) (xs : List X) (at : ℕ) (y : X) → at + 16 ≤ length xs
    → lanes_mask w (unequal eq) (chunk at 16 xs) (replicate 16 y) ≡ mask_l (map (λ x. not (eq x y)) (chunk at 16 xs))
unlike_is w eq xs at y room = bitmask_splat w (unequal eq) (chunk at 16 xs) 16 y (length-chunk at 16 xs room) (omega arith)
