-- The first element of a list and the last, by their places.
use Rattle.std.proofs.Common.{◌≡◌, ℕ, suc, ◌-◌, ◌<◌, Bool, true, false, not, List, [], ◌∷◌, length, get_or, map, Option, Some, refl, sym, ap, ◌∙◌, arith}
use Rattle.std.specs.Prelude.{option_map}
use Rattle.sgb_split.specs.Split.{first, last}
use Rattle.slice_group_stream.specs.Streams.{last_after}

pub not_not : (b : Bool) → not (not b) ≡ b
not_not true = refl
not_not false = refl

module _ {T : Type 0} where
  pub first_at : (xs : List T) (x : T) → 0 < length xs → x ≡ get_or xs 0 x → first xs ≡ Some x
  first_at [] x some e = absurd (omega arith)
  first_at (y ∷ ys) x some e = ap (λ z. Some z) (sym e)

  pub last_at : (xs : List T) (y : T) → 0 < length xs → y ≡ get_or xs (length xs - 1) y → last xs ≡ Some y
  last_at [] y some e = absurd (omega arith)
  last_at (x ∷ []) y some e = ap (λ v. Some v) (sym e)
  last_at (x ∷ z ∷ zs) y some e =
      last_at (z ∷ zs) y (omega arith)
      (e ∙ ap (λ (n : ℕ). get_or (x ∷ z ∷ zs) n y) {x = length (x ∷ z ∷ zs) - 1} {y = suc (length (z ∷ zs) - 1)} (omega arith))

module _ {T K : Type 0} (k : T → K) where
  pub first_mapped : (xs : List T) → first (map k xs) ≡ option_map k (first xs)
  first_mapped [] = refl
  first_mapped (x ∷ xs) = refl

  pub last_mapped : (xs : List T) → last (map k xs) ≡ option_map k (last xs)
  last_mapped [] = refl
  last_mapped (x ∷ []) = refl
  last_mapped (x ∷ y ∷ ys) = last_mapped (y ∷ ys)

  -- the key of the last element is kept
  pub kept_mapped : (before : Option K) (xs : List T) (y : T) → last xs ≡ Some y → Some (k y) ≡ last_after before (map k xs)
  kept_mapped before xs y e = rw (last_mapped xs, e) refl
