-- Groups that go on over the blocks of a stream. A part is what a group has in one block, with whether a group begins there.
use Rattle.std.specs.Prelude.{◌≡◌, Bool, true, not, cond, List, [], ◌∷◌, ◌++◌, Option, None, Some, map, option_map, MatchOption}
use Rattle.std.specs.Borrow.{Bor}
use Rattle.std.specs.Fn.{CalledAt, Mut}
use Rattle.std.specs.List.{fold}
use Rattle.sgb_split.specs.Judges.{IsRun, by_predicate, predicate_judge}
use Rattle.sgb_split.specs.Split.{first, last}
use Rattle.slice_group_stream.specs.declared.parts.Parts.{Parts}
use Rattle.slice_group_stream.specs.declared.stream.StreamGroups.{StreamGroups}

-- the last value, if there is one, is changed
abbrev pub change_last : {V : Type 0} → (V → V) → List V → List V
change_last change [] = []
change_last change (v ∷ []) = change v ∷ []
change_last change (v ∷ w ∷ vs) = v ∷ change_last change (w ∷ vs)

-- the values that `values` gives of a part that begins a group are added, and another part changes the last value by `more`
abbrev pub add_values : {A V : Type 0} → (values : List A → List V) (more : V → List A → V) → List V → Bool × List A → List V
add_values values more vs part = cond part.0 (vs ++ values part.1) (change_last (λ v. more v part.1) vs)

-- of each group a value: a part that begins one adds the value that `first` gives of it, and another changes the last value by `more`
abbrev pub add_part : {A V : Type 0} → (first : List A → V) (more : V → List A → V) → List V → Bool × List A → List V
add_part first more = add_values (λ part. first part ∷ []) more

-- the value that `first` gives of the first element and the others, if there is a first
abbrev pub of_nonempty : {A V : Type 0} → (A → List A → V) → List A → List V
of_nonempty first [] = []
of_nonempty first (x ∷ xs) = first x xs ∷ []

module _ {A : Type 0} where
  -- groups, and a part more: one that begins a group is a group, and another goes on with the last
  abbrev pub with_part : List (List A) → Bool × List A → List (List A)
  with_part = add_part (λ part. part) (λ group part. group ++ part)

  -- groups, and parts more, in their order
  abbrev pub with_parts : List (List A) → List (Bool × List A) → List (List A)
  with_parts = fold with_part

  -- groups of a block as parts: a group of the stream begins with each, or with each but the first
  abbrev pub as_parts : Bool → List (List A) → List (Bool × List A)
  as_parts begins [] = []
  as_parts begins (g ∷ gs) = (begins, g) ∷ map (λ h. (true, h)) gs

  -- the last element, or the one that came before where there is none
  abbrev pub or_before : Option A → Option A → Option A
  or_before None before = before
  or_before (Some x) before = Some x

  abbrev pub last_after : Option A → List A → Option A
  last_after before block = or_before (last block) before

  -- the element before a block, and the block's first, if there are both
  abbrev pub both : Option A → Option A → Option (A × A)
  both (Some x) (Some y) = Some (x, y)
  both x y = None

  abbrev pub across : Option A → List A → Option (A × A)
  across before block = both before (first block)

  -- whether a group begins between the two: where there are none, or the test refuses them
  abbrev pub begins_at : (A → A → Bool) → Option (A × A) → Bool
  begins_at p None = true
  begins_at p (Some q) = not (p q.0 q.1)

  -- the pairs that are asked about: of each block the pair across, then its neighbours
  abbrev pub pair_list : Option (A × A) → List (A × A)
  pair_list None = []
  pair_list (Some q) = q ∷ []

-- the last element that has come, or its key
abbrev pub kept_of : {K : Type 0} → StreamGroups K → Option K
kept_of s = s.kept

-- whether the next part begins a group, and the groups of the block
abbrev pub begins_of : {I : Type 0} → Parts I → Bool
begins_of s = s.begins

abbrev pub groups_in : {I : Type 0} → Parts I → I
groups_in s = s.groups

-- what a call gives: a group of the block, with whether it begins there, which all but the first do
abbrev pub GivesBlockPart : {I X : Type 0} → (I → Option X → I → Type 0) → Parts I → Option (Bool × X) → Parts I → Type 0
GivesBlockPart gives s part t =
    gives s.groups (option_map (λ x. x.1) part) t.groups
    × MatchOption part (t.begins ≡ s.begins) (λ x. (x.0 ≡ s.begins) × (t.begins ≡ true))

-- The predicate is called on the pair across, if there is one, and answers whether no group begins there.
pub record AsksAcross {P T : Type 0} (g : Mut P (Bor T × (Bor T × Unit {0})) Bool) (pair : Option (T × T)) (f : P) (begins : Bool) (f' : P)
    : Type 0 where
  pub run : IsRun (by_predicate g).may_ask (by_predicate g).answers (predicate_judge f) (map (λ q. (q, not begins)) (pair_list pair))
      (predicate_judge f')
  pub alone : pair ≡ None → begins ≡ true

-- the key function is called on the one element, and then on the other
pub record CallsTwice {F T K : Type 0} (g : Mut F (Bor T × Unit {0}) K) (first last : T) (f f' : F) : Type 0 where
  pub between : F
  pub first_key : K
  pub last_key : K
  pub first_call : CalledAt g f first first_key between
  pub last_call : CalledAt g between last last_key f'

-- It is called on the first element of a block and on the last, if there are any. A group begins with the block unless the first key
-- equals the one that was kept, and the last key is kept.
abbrev pub AsksEnds : {F T K : Type 0} → Mut F (Bor T × Unit {0}) K → (K → K → Bool) → List T → F → Option K → Bool → Option K → F → Type 0
AsksEnds g eq block f kept begins kept' f' = MatchOption (both (first block) (last block)) ((f' ≡ f) × (begins ≡ true) × (kept' ≡ kept))
    (λ q. (calls : CallsTwice g q.0 q.1 f f') × (begins ≡ begins_at eq (both kept (Some calls.first_key))) × (kept' ≡ Some calls.last_key))
