-- The length and the first element of each group.
use Rattle.std.specs.Prelude.{◌≡◌, ℕ, List, [], ◌∷◌, length, Option, None, Some, MatchOption, slice_get}
use Rattle.std.specs.Borrow.{Bor}
use Rattle.std.specs.Iterator.{Count, at_most}
use Rattle.sgb_split.specs.declared.end.End.{End}
use Rattle.slice_group_by.specs.declared.adapters.dedup.DedupWithCount.{DedupWithCount}

-- the length and the first element of each list that is not empty
abbrev pub counted : {T : Type 0} → List (List T) → List (ℕ × T)
counted [] = []
counted ([] ∷ groups) = counted groups
counted ((x ∷ xs) ∷ groups) = (length (x ∷ xs), x) ∷ counted groups

-- the groups that are counted
abbrev pub counted_groups : {T Q : Type 0} → DedupWithCount T Q → Q
counted_groups s = s.groups

-- no more come than units are left
abbrev pub counts_to_come : {T Q U : Type 0} → (Q → List U) → DedupWithCount T Q → Count
counts_to_come left s = at_most (length (left (counted_groups s)))

-- what a call at the end gives: the length and the first element of a group
abbrev pub GivesCounted : {T Q : Type 0} → (End → Q → Option (Bor (List T)) → Q → Type 0)
    → End → DedupWithCount T Q → Option (ℕ × Bor T) → DedupWithCount T Q → Type 0
GivesCounted {T} gives e s item t = MatchOption item (gives e s.groups None t.groups)
    (λ x. (group : Bor (List T)) × gives e s.groups (Some group) t.groups × (x.0 ≡ length group.now)
    × (slice_get group.now 0 ≡ Some x.1.now))
