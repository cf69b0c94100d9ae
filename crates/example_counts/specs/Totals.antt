-- Totals kept in the first element of each group.
use Rattle.std.specs.Prelude.{ℕ, List, [], ◌∷◌}
use Rattle.std.specs.List.{sum_by}

-- the sum of the counts
abbrev pub total : List (ℕ × ℕ) → ℕ
total es = sum_by (λ e. e.1) es

-- the first element counts for all
abbrev pub kept : List (ℕ × ℕ) → List (ℕ × ℕ)
kept [] = []
kept (e ∷ es) = (e.0, total (e ∷ es)) ∷ es
