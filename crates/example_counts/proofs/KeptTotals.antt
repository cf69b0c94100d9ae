-- The total of a group, written into its first element.
use Rattle.std.proofs.Common.{◌≡◌, ℕ, List, [], ◌∷◌, ap, refl, get_or, slice_set}
use Rattle.example_counts.specs.Totals.{total, kept}

-- the total written into the first element
pub set_is_kept : (es : List (ℕ × ℕ)) (n : ℕ) → n ≡ total es → slice_set es 0 ((get_or es 0 (0, 0)).0, n) ≡ kept es
set_is_kept [] n e = refl
set_is_kept (x ∷ es) n e = ap (λ (m : ℕ). (x.0, m) ∷ es) e
