-- What the calls of an iterator over the groups of a slice give, for reading and for writing, whatever they ask.
use Rattle.std.specs.Prelude.{◌≡◌, ℕ, Bool, List, [], length, Option, MatchOption, nat_le, min}
use Rattle.std.specs.Option.{option_copied_mut}
use Rattle.std.specs.Borrow.{Bor, MutBor}
use Rattle.sgb_split.specs.Calls.{Groups, Place, place_after, part_between, CallAt, IsGroupAt}
use Rattle.sgb_split.specs.declared.end.End.{End}
use Rattle.sgb_loans.specs.Loans.{GroupsMut, HandsOut}
use Rattle.sgb_groups.specs.declared.groups.SliceGroups.{SliceGroups}

-- whether the place lies in the list or at its end
abbrev pub lies_within : {T : Type 0} → List T → ℕ → Bool
lies_within xs place = nat_le place (length xs)

-- what contracts see of an iterator for reading: the elements that it has not handed out yet, which lie between its two places,
-- and its judge
abbrev pub groups_of : {T J W : Type 0} → SliceGroups T J W → Groups T J
groups_of s = record { remainder = part_between (lies_within s.slice.now) s.slice.now s.low s.high; judge = s.judge }

-- the slice that it was made of, and where the remainder begins in it: behind all that calls at the front have taken off
abbrev pub place_of : {T J W : Type 0} → SliceGroups T J W → Place T
place_of s = record { input = s.slice.now; offset = min s.low (length s.slice.now) }

-- what an iterator for writing shows of the same
abbrev pub groups_of_mut : {T J : Type 0} → GroupsMut T J → Groups T J
groups_of_mut s = record { remainder = s.remainder; judge = s.judge }

-- asks: what a call asks, as of linear, binary or exponential groups

-- a call at the end e takes this group off what remains, which then begins behind a group from the front, and else where it began
pub record TakesGroup {T J W : Type 0} (asks : End → List T → ℕ → J → J → Type 0) (e : End) (s : SliceGroups T J W) (group : List T)
    (t : SliceGroups T J W) : Type 0 where
  pub call : IsGroupAt asks e (groups_of s) group (groups_of t)
  pub place : place_of t ≡ place_after e (length group) (place_of s)

-- what a call at the end e gives for reading: what `CallAt` says of what the two show, and where it gives `None` nothing at all changes
abbrev pub Gives : {T J W : Type 0} → (End → List T → ℕ → J → J → Type 0)
    → End → SliceGroups T J W → Option (Bor (List T)) → SliceGroups T J W → Type 0
Gives asks e s group t = MatchOption group (((groups_of s).remainder ≡ []) × (t ≡ s)) (λ x. TakesGroup asks e s x.now t)

-- what a call at the end e gives for writing: the same, and the group is out then; or nothing, and then nothing changes
abbrev pub GivesMut : {T J : Type 0} → (End → List T → ℕ → J → J → Type 0)
    → End → GroupsMut T J → Option (MutBor (List T)) → GroupsMut T J → Type 0
GivesMut asks e s group t =
    CallAt asks e (groups_of_mut s) (option_copied_mut group) (groups_of_mut t)
    × MatchOption group (t ≡ s) (λ x. HandsOut e s.loans x.ghost_name t.loans)
