-- What an iterator over groups of a text's bytes for writing shows, and what its calls give.
use Rattle.std.specs.Prelude.{◌≡◌, ℕ, List, Option, MatchOption}
use Rattle.std.specs.Option.{option_copied_mut}
use Rattle.std.specs.Borrow.{MutBor}
use Rattle.std.specs.Iterator.{Count}
use Rattle.sgb_split.specs.declared.judge.Judge.{Ghosts}
use Rattle.sgb_loans.specs.declared.loans.Loans.{Loans}
use Rattle.sgb_loans.specs.Loans.{HandsOut}
use Rattle.sgb_split.specs.declared.end.End.{End}
use Rattle.sgb_linear_str_group.specs.Texts.{TextGroups, text_groups_to_come, TextCallAt}

-- the bytes that it has not handed out yet, its judge, and the parts of the input that are out
pub record TextGroupsMut (J : Type 0) : Type 0 where
  pub text : List ℕ
  pub judge : J
  pub loans : Loans ℕ

-- what an iterator for reading shows of the same
abbrev pub text_groups_of_mut : {J : Type 0} → TextGroupsMut J → TextGroups J
text_groups_of_mut s = record { text = s.text; judge = s.judge }

-- no more groups come than bytes remain, as for reading
abbrev pub text_groups_mut_to_come : {J : Type 0} → TextGroupsMut J → Count
text_groups_mut_to_come s = text_groups_to_come (text_groups_of_mut s)

-- what a call at the end gives for writing: what it gives for reading, and the group is out then; or nothing, and then nothing changes
abbrev pub GivesTextMut : {J : Type 0} → Ghosts J ℕ → End → TextGroupsMut J → Option (MutBor (List ℕ)) → TextGroupsMut J → Type 0
GivesTextMut g e s group t =
    TextCallAt g e (text_groups_of_mut s) (option_copied_mut group) (text_groups_of_mut t)
    × MatchOption group (t ≡ s) (λ x. HandsOut e s.loans x.ghost_name t.loans)
