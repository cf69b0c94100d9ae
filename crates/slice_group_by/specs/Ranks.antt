-- The ranks of the places of a list: how many groups end before that of each.
use Rattle.std.specs.Prelude.{ℕ, Bool, List, [], ◌∷◌, map}
use Rattle.sgb_split.specs.Split.{refused_pairs}

-- the nonempty beginnings of the list, the shortest first: one for each place, and it ends there
abbrev pub beginnings : {A : Type 0} → List A → List (List A)
beginnings [] = []
beginnings (x ∷ xs) = (x ∷ []) ∷ map (λ ys. x ∷ ys) (beginnings xs)

-- at each place, how many neighbouring pairs up to it the test refuses, the pair that it is the right one of among them
abbrev pub ranks : {A : Type 0} → (A → A → Bool) → List A → List ℕ
ranks p xs = map (refused_pairs p) (beginnings xs)
