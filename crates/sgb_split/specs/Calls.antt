-- What contracts see of an iterator over groups, and what a call gives of the list that remains: one definition for all families, which
-- differ in what they ask.
use Rattle.std.specs.Prelude.{List, length, ◌≡◌, ◌&&◌, ℕ, ◌+◌, ◌<◌, ◌≤◌, Bool, [], Option, MatchOption, slice_range, nat_le, if◌then◌else◌}
use Rattle.std.specs.Iterator.{Count, at_most}
use Rattle.sgb_split.specs.declared.end.End.{End}
use Rattle.sgb_split.specs.declared.end.End.TheVariants.{Front, Back}
use Rattle.sgb_split.specs.declared.judge.Judge.{Ghosts}
use Rattle.sgb_split.specs.Split.{put_at, on_pairs}
use Rattle.sgb_split.specs.Judges.{IsCallable, Computes}

-- the elements that it has not handed out yet, and its judge
pub record Groups (T J : Type 0) : Type 0 where
  pub remainder : List T
  pub judge : J

-- a list, and a place in it: where what remains of it begins
pub record Place (T : Type 0) : Type 0 where
  pub input : List T
  pub offset : ℕ

-- the beginning of a list
abbrev pub at_start : {T : Type 0} → List T → Place T
at_start xs = record { input = xs; offset = 0 }

-- the place after a part of so many elements is taken off: behind it at the front, and the same at the back
abbrev pub place_after : {T : Type 0} → End → ℕ → Place T → Place T
place_after Front len p = record { input = p.input; offset = p.offset + len }
place_after Back len p = p

-- the part stands there in the list
pub record StandsAt {T : Type 0} (p : Place T) (part : List T) : Type 0 where
  pub within : p.offset + length part ≤ length p.input
  pub is : slice_range p.input p.offset (p.offset + length part) ≡ part

-- the part of a list from the place `low` up to the place `high`, where these stand in this order and pass a test, as whether they lie
-- in the list, and else the empty list: what `get` gives
unfoldable pub part_between : {T : Type 0} → (ℕ → Bool) → List T → ℕ → ℕ → List T
part_between is_place xs low high = if nat_le low high && (is_place low && is_place high) then slice_range xs low high else []

-- no more groups come than elements remain
abbrev pub groups_to_come : {T J : Type 0} → Groups T J → Count
groups_to_come s = at_most (length s.remainder)

module _ {T J : Type 0} where
  -- asks e xs n j k: a call at the end e that takes n of the elements xs may lead the judge from j to k
  module _ (asks : End → List T → ℕ → J → J → Type 0) (e : End) where
    -- the group is a nonempty part at the end of the remainder, and t has the rest
    pub record IsGroupAt (s : Groups T J) (group : List T) (t : Groups T J) : Type 0 where
      pub nonempty : 0 < length group
      pub cut : s.remainder ≡ put_at e group t.remainder
      pub asked : asks e s.remainder (length group) s.judge t.judge

    -- a call: it gives the group there, or `None` exactly where nothing remains, and then nothing is asked and nothing changes
    abbrev pub CallAt : Groups T J → Option (List T) → Groups T J → Type 0
    CallAt s group t = MatchOption group ((s.remainder ≡ []) × (t ≡ s)) (λ x. IsGroupAt s x t)

  -- allowed xs are the pairs that a call may ask about where xs remains: the judge may be asked about each, now and after any such
  -- questions
  abbrev pub IsCallableBy : (List T → T × T → Type 0) → Ghosts J T → Groups T J → Type 0
  IsCallableBy allowed g s = IsCallable g.may_ask g.answers (allowed s.remainder) s.judge

  -- each answer to allowed questions is what p says; whether they may be asked it leaves open
  abbrev pub ComputesBy : (List T → T × T → Type 0) → Ghosts J T → Groups T J → (T → T → Bool) → Type 0
  ComputesBy allowed g s p = Computes g.may_ask g.answers (allowed s.remainder) (on_pairs p) s.judge
