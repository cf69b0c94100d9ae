-- Places between groups.
use Rattle.std.specs.Prelude.{◌≡◌, ℕ, Bool, List, ◌++◌, take, drop}
use Rattle.sgb_split.specs.Split.{split}

-- cut at the place, the two parts have the groups of the whole
abbrev pub PartsAt : {A : Type 0} → (A → A → Bool) → List A → ℕ → Type 0
PartsAt p xs n = split p xs ≡ split p (take n xs) ++ split p (drop n xs)
