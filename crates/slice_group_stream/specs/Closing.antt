-- What a loop over the parts of a stream has made of the groups that are closed, and what it keeps of the open one, the last.
use Rattle.std.specs.Prelude.{◌≡◌, Bool, cond, List, [], ◌∷◌, ◌++◌, Option, flat_map}
use Rattle.sgb_split.specs.Split.{last, split, without_last}

-- the elements of the open group, or none where there is no group
abbrev pub open_group : {A : Type 0} → List (List A) → List A
open_group [] = []
open_group (g ∷ []) = g
open_group (g ∷ h ∷ gs) = open_group (h ∷ gs)

module _ {A V W : Type 0} (kept : List A → V) where
  -- a part that begins a group closes the one that is open, and another adds to it
  abbrev pub take_part : (more : V → List A → V) (close : V → List W) → List W × V → Bool × List A → List W × V
  take_part more close made part = (cond part.0 (made.0 ++ close made.1) made.0, cond part.0 (kept part.1) (more made.1 part.1))

-- Elements have come: the last of them, what closing each group but the last has made, and what is kept of the last.
pub record ClosedSoFar {A V W : Type 0} (p : A → A → Bool) (kept : List A → V) (close : V → List W) (before : Option A) (made : List W)
    (value : V) (came : List A) : Type 0 where
  pub stream : before ≡ last came
  pub closed : made ≡ flat_map (λ group. close (kept group)) (without_last (split p came))
  pub opened : value ≡ kept (open_group (split p came))
