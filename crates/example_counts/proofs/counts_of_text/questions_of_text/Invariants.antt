use Rattle.std.proofs.Common.{◌-◌, ◌^◌, length}
use Rattle.std.specs.Str.{chars}
use Rattle.slice_group_by.specs.Texts.{text_groups_of}
use Rattle.slice_group_by.specs.Counts.{HasCounted}
use Rattle.example_counts.proofs.counts_of_text.questions_of_text.Given as goal

abbrev pub invariant-loop : goal.invariant-loop
invariant-loop l =
    HasCounted (λ q. q.judge.predicate.0) (λ q. length (chars (text_groups_of q).text) - 1) 1 (2 ^ 64) l.initial.groups l.groups
