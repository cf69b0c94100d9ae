-- Groups by a key, each with its key: that of its first element.
use Rattle.std.specs.Prelude.{◌≡◌, ℕ, ◌+◌, List, [], ◌∷◌, length, Option, None, Some, MatchOption, slice_get}
use Rattle.std.specs.Iterator.{Count, at_most}
use Rattle.sgb_split.specs.declared.end.End.{End}
use Rattle.slice_group_by.specs.declared.adapters.keyed.WithKeys.{WithKeys}

-- each list that is not empty, with the key of its first element
abbrev pub keyed : {T K : Type 0} → (T → K) → List (List T) → List (K × List T)
keyed key [] = []
keyed key ([] ∷ groups) = keyed key groups
keyed key ((x ∷ xs) ∷ groups) = (key x, x ∷ xs) ∷ keyed key groups

-- the same, with the sum of the lengths of those before it, and n, between the two
abbrev pub keyed_at : {T K : Type 0} → (T → K) → ℕ → List (List T) → List (K × (ℕ × List T))
keyed_at key n [] = []
keyed_at key n ([] ∷ groups) = keyed_at key n groups
keyed_at key n ((x ∷ xs) ∷ groups) = (key x, (n, x ∷ xs)) ∷ keyed_at key (n + length (x ∷ xs)) groups

-- the groups whose keys are given
abbrev pub groups_within : {Q : Type 0} → WithKeys Q → Q
groups_within s = s.groups

-- no more groups come than units are left
abbrev pub keys_to_come : {Q U : Type 0} → (Q → List U) → WithKeys Q → Count
keys_to_come left s = at_most (length (left (groups_within s)))

-- one call of a key function, on the first of the elements, leads from the state f to f' and gives the key
abbrev pub CallsAtFirst : {F T K : Type 0} → (F → T → K → F → Type 0) → F → List T → K → F → Type 0
CallsAtFirst {T = T} called f xs key f' = (x : T) × (slice_get xs 0 ≡ Some x) × called f x key f'

module _ {Q I K : Type 0} (gives : End → Q → Option I → Q → Type 0) (calls : Q → I → K → Q → Type 0) where
  -- what a call at the end gives: a group, and then its key, by a call of the key function
  abbrev pub GivesWithKey : End → WithKeys Q → Option (K × I) → WithKeys Q → Type 0
  GivesWithKey e s item t =
      MatchOption item (gives e s.groups None t.groups) (λ x. (q : Q) × gives e s.groups (Some x.1) q × calls q x.1 x.0 t.groups)
