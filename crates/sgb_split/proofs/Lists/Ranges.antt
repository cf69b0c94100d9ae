-- Ranges of a list, by their places.
use Rattle.std.proofs.Common.{◌≡◌, ℕ, ◌+◌, ◌-◌, ◌<◌, ◌≤◌, List, length, drop, get_or, ap, sym, ◌∙◌, arith, length-drop}
use Rattle.std.proofs.lemmas.List.{length-take, get_or-take, get_or-drop}
use Rattle.std.specs.List.{slice_range}

module _ {A : Type 0} (xs : List A) where
  pub length-range : (a b : ℕ) → a ≤ b → b ≤ length xs → length (slice_range xs a b) ≡ b - a
  length-range a b h l = omega (arith, length-take (b - a) (drop a xs), length-drop a xs)

  -- an element of the part is one of the list, at its place there
  pub get_or-range : (low high i place : ℕ) (d : A) → place ≡ low + i → place < high
      → get_or (slice_range xs low high) i d ≡ get_or xs place d
  get_or-range low high i place d e l =
      get_or-take (high - low) (drop low xs) i d (omega arith) ∙ get_or-drop low xs i d ∙ ap (λ (n : ℕ). get_or xs n d) (sym e)

  pub at_range : (low high i place : ℕ) (a : A) → place ≡ low + i → place < high → a ≡ get_or xs place a
      → a ≡ get_or (slice_range xs low high) i a
  at_range low high i place a e l is = is ∙ sym (get_or-range low high i place a e l)
