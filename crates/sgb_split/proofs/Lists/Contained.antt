-- The elements of a list that has a first one.
use Rattle.std.specs.Prelude.{◌≡◌, List, ◌∷◌, ◌⊎◌, refl}
use Rattle.std.proofs.Common.{zero, suc, arith, inl, inr}
use Rattle.std.specs.List.{Contains}

module _ {X : Type 0} where
  pub contains_head : (x : X) (xs : List X) → Contains (x ∷ xs) x
  contains_head x xs = (0, omega arith, refl)

  pub contains_tail : (y : X) (xs : List X) (x : X) → Contains xs x → Contains (y ∷ xs) x
  contains_tail y xs x c = (suc c.0, omega (arith, c.1), c.2)

  -- the first, or one of the others
  pub contains_cases : (x : X) (xs : List X) (y : X) → Contains (x ∷ xs) y → (x ≡ y) ⊎ Contains xs y
  contains_cases x xs y (zero, l, e) = inl e
  contains_cases x xs y (suc k, l, e) = inr (k, omega (arith, l), e)
