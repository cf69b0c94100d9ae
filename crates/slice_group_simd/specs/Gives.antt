-- What the calls of an iterator over groups by masks give.
use Rattle.std.specs.Prelude.{◌≡◌, List, [], length, Option, None, Some, MatchOption, option_copied, slice_range}
use Rattle.std.proofs.Common.{ap}
use Rattle.std.specs.Borrow.{Bor}
use Rattle.sgb_split.specs.Calls.{Groups, Place, place_after, CallAt, IsGroupAt}
use Rattle.sgb_split.specs.Linear.{LinearQuestions}
use Rattle.sgb_split.specs.declared.end.End.{End}
use Rattle.sgb_split.specs.declared.judge.Judge.{Ghosts}
use Rattle.sgb_numbers.specs.declared.masks.Masks as masks
use Rattle.slice_group_simd.specs.declared.mask_groups.MaskGroups.{MaskGroups}

module _ {T J : Type 0} {P : masks.Ghosts J T} where
  -- what contracts see of it: the elements that it has not handed out yet, and its judge
  abbrev pub groups_of : MaskGroups T J P → Groups T J
  groups_of s = record { remainder = slice_range s.slice.now s.low s.high; judge = s.judge }

  -- the slice that it was made of, and where the remainder begins in it
  abbrev pub place_of : MaskGroups T J P → Place T
  place_of s = record { input = s.slice.now; offset = s.low }

  -- a call at the end e takes this group off what remains, which then begins behind a group from the front, and else where it began
  pub record TakesGroup (g : Ghosts J T) (e : End) (s : MaskGroups T J P) (group : List T) (t : MaskGroups T J P) : Type 0 where
    pub call : IsGroupAt (LinearQuestions g) e (groups_of s) group (groups_of t)
    pub place : place_of t ≡ place_after e (length group) (place_of s)

  -- what a call at the end e gives: a group, or `None` exactly where nothing remains, and then nothing changes
  abbrev pub Gives : Ghosts J T → End → MaskGroups T J P → Option (Bor (List T)) → MaskGroups T J P → Type 0
  Gives g e s group t = MatchOption group (((groups_of s).remainder ≡ []) × (t ≡ s)) (λ x. TakesGroup g e s x.now t)

  -- so it is a call of linear groups
  pub call : (g : Ghosts J T) (e : End) (s : MaskGroups T J P) (o : Option (Bor (List T))) (t : MaskGroups T J P) → Gives g e s o t
      → CallAt (LinearQuestions g) e (groups_of s) (option_copied o) (groups_of t)
  call g e s None t h = (h.0, ap groups_of h.1)
  call g e s (Some x) t h = h.call
