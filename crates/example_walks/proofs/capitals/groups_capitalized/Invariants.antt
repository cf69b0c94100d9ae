use Rattle.std.proofs.Common.{◌≡◌, ◌++◌, [], length}
use Rattle.std.specs.Str.{str_to_ascii_uppercase}
use Rattle.std.specs.Char.{is_ascii_alphabetic}
use Rattle.slice_group_by.specs.Judges.{by_char_key}
use Rattle.slice_group_by.specs.Texts.{IsSettledText}
use Rattle.slice_group_by.specs.TextsMut.{text_groups_of_mut}
use Rattle.example_walks.proofs.capitals.groups_capitalized.Given as goal
use mathlib.Core.Bool.{beq}

abbrev pub invariant-loop-group : goal.invariant-loop-group
invariant-loop-group g l = record {
  letters : IsSettledText (by_char_key g.F.FnMut beq) (text_groups_of_mut l.groups) (λ a b. beq (is_ascii_alphabetic a) (is_ascii_alphabetic b));
  root : l.groups.loans.root ≡ l.initial.groups.loans.root;
  after : l.groups.loans.after ≡ [];
  cuts : l.groups.loans.cuts ≡ [];
  done : l.groups.loans.before ++ str_to_ascii_uppercase l.groups.text ≡ str_to_ascii_uppercase l.initial.groups.text;
}

abbrev pub decreases-loop-group : goal.decreases-loop-group
decreases-loop-group g l = length l.groups.text
