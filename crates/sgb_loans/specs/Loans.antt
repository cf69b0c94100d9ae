-- What contracts see of the parts of a slice that are out, and what the slice ends as while they are written.
use Rattle.std.specs.Prelude.{◌≡◌, List, [], ◌∷◌, ◌++◌, ◌-◌, length, take, drop, Option, None, Some}
use Rattle.std.specs.Borrow.{MutBor, GName, Fml, RattleType, Array, follows_both}
use Rattle.std.specs.Iterator.{Count, at_most}
use Rattle.sgb_split.specs.declared.end.End.{End}
use Rattle.sgb_split.specs.declared.end.End.TheVariants.{Front, Back}
use Rattle.sgb_split.specs.Split.{put_at}
use Rattle.sgb_loans.specs.declared.loans.Loans.{Loans}
use base.Fml.{fres, fall, fwand}

-- what an iterator over groups for writing shows: the elements that it has not handed out yet, its judge, and the parts of the input
-- that are out
pub record GroupsMut (T J : Type 0) : Type 0 where
  pub remainder : List T
  pub judge : J
  pub loans : Loans T

-- no more groups come than elements remain
abbrev pub groups_mut_to_come : {T J : Type 0} → GroupsMut T J → Count
groups_mut_to_come s = at_most (length s.remainder)

-- the part named g came off at the end e, and is out with those that were out before; the rest has a new name
pub record HandsOut {T : Type 0} (e : End) (l : Loans T) (g : GName) (m : Loans T) : Type 0 where
  pub root : m.root ≡ l.root
  pub before : m.before ≡ l.before
  pub after : m.after ≡ l.after
  pub cuts : m.cuts ≡ l.cuts ++ (e, g) ∷ []

-- what the end of a walk shows: the part that it gave last, the elements that remain, and the loans
pub record LastPart (T : Type 0) : Type 0 where
  pub part : Option (MutBor (List T))
  pub left : List T
  pub loans : Loans T

-- what is left of the elements once the part came off their back, and the parts that are out then
abbrev pub left_by : {T : Type 0} → List T → Option (MutBor (List T)) → List T
left_by xs None = xs
left_by xs (Some part) = take (length xs - length part.now) xs

abbrev pub cuts_with : {T : Type 0} → List (End × GName) → Option (MutBor (List T)) → List (End × GName)
cuts_with cuts None = cuts
cuts_with cuts (Some part) = cuts ++ (Back, part.ghost_name) ∷ []

-- the end of a walk: of xs, with the loans l, the part came off the back, or nothing where xs was empty
pub record IsLastOf {T : Type 0} (xs : List T) (l : Loans T) (e : LastPart T) : Type 0 where
  pub left : e.left ≡ left_by xs e.part
  pub root : e.loans.root ≡ l.root
  pub before : e.loans.before ≡ l.before
  pub after : e.loans.after ≡ l.after
  pub cuts : e.loans.cuts ≡ cuts_with l.cuts e.part

-- of the two parts of a slice, the one at the end, and the other
abbrev pub part_at : {X : Type 0} → End → X × X → X
part_at Front parts = parts.0
part_at Back parts = parts.1

abbrev pub rest_at : {X : Type 0} → End → X × X → X
rest_at Front parts = parts.1
rest_at Back parts = parts.0

-- nothing of the slice named n is out
pub record NothingOut {T : Type 0} (n : GName) (l : Loans T) : Type 0 where
  pub root : l.root ≡ n
  pub rest : l.rest ≡ n
  pub before : l.before ≡ []
  pub after : l.after ≡ []
  pub cuts : l.cuts ≡ []

-- what stands before and after what is out, once the oldest part, which came off at the end, ended as xs
abbrev pub before_with : {X : Type 0} → End → List X → List X → List X
before_with Front before xs = before ++ xs
before_with Back before xs = before

abbrev pub after_with : {X : Type 0} → End → List X → List X → List X
after_with Front xs after = after
after_with Back xs after = xs ++ after

-- the oldest part, which came off at the end, ended as xs, and is out no more
abbrev pub noted : {T : Type 0} → End → List T → Loans T → Loans T
noted e xs l = record l { before = before_with e l.before xs; after = after_with e xs l.after; cuts = drop 1 l.cuts }

-- what a loop keeps that makes f of the slice named n and notes each part once it is written: no other part is out, and what is noted and
-- f of the rest make up f of the whole
pub record NotedSoFar {T : Type 0} (f : List T → List T) (n : GName) (whole : List T) (l : Loans T) (rest : List T) : Type 0 where
  pub root : l.root ≡ n
  pub cuts : l.cuts ≡ []
  pub done : l.before ++ (f rest ++ l.after) ≡ f whole

module _ (T : RattleType) where
  -- the slice named γ is given up for good, and ended as xs
  abbrev pub ended_as : GName → List T.Denot → Fml
  ended_as γ xs = fres γ ((Array T 0).coded.code xs)

  -- the slice named γ ends as before, what the parts of cs and the slice named δ end as in their places, and after: whoever
  -- learns what each of them ended as, the oldest part first, learns that
  abbrev pub loan_owns : GName → List T.Denot → List T.Denot → List (End × GName) → GName → Fml
  loan_owns γ before after [] δ = fall (List T.Denot) (λ w. fwand (ended_as δ w) (ended_as γ (before ++ (w ++ after))))
  loan_owns γ before after (c ∷ cs) δ =
      fall (List T.Denot) (λ xs. fwand (ended_as c.1 xs) (loan_owns γ (before_with c.0 before xs) (after_with c.0 xs after) cs δ))

  -- the slice named γ ends as before, what the parts of cs end as and ws in their places, and after: what `loan_owns` is once the
  -- rest has ended as ws
  abbrev pub input_ends : GName → List T.Denot → List T.Denot → List (End × GName) → List T.Denot → Fml
  input_ends γ before after [] ws = ended_as γ (before ++ (ws ++ after))
  input_ends γ before after (c ∷ cs) ws = fall (List T.Denot) (λ xs.
      fwand (ended_as c.1 xs) (input_ends γ (before_with c.0 before xs) (after_with c.0 xs after) cs ws))

  -- what is out ends as it will, and the rest ended as ws
  abbrev pub rest_ends : Loans T.Denot → List T.Denot → Fml
  rest_ends l ws = input_ends l.root l.before l.after l.cuts ws

  -- the part came off the back of xs, or nothing where xs was empty, and what is left of xs stays as it is: whoever learns what
  -- the parts of l end as, and then this one, learns what the input ends as
  abbrev pub input_ends_after : Loans T.Denot → List T.Denot → Option (MutBor (List T.Denot)) → Fml
  input_ends_after l xs part = input_ends l.root l.before l.after (cuts_with l.cuts part) (left_by xs part)

  -- a cut at the end of the slice named γ: the part g came off it, and δ remained
  abbrev pub cut_link : GName → End → GName → GName → Fml
  cut_link γ e g δ = follows_both (Array T 0) (Array T 0) (Array T 0) γ g δ (put_at e)
