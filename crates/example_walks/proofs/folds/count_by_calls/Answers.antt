use Rattle.std.proofs.Common.{Some, rules, arith, ap, ◌∙◌, length, nat_eq}
use Rattle.std.proofs.lemmas.List.{length-append}
use Rattle.slice_group_by.specs.Gives.{groups_of}
use Rattle.slice_group_by.specs.End.TheVariants.{Back}
use Rattle.slice_group_by.specs.Split.{split}
use Rattle.example_walks.proofs.folds.count_by_calls.Goals as goal

pub loop-count-preserved : goal.loop-count-preserved
loop-count-preserved c =
    let i = c.loop-count.invariant in
    let laws = c.calls_take_pieces.ensures in
    let whole = laws.whole nat_eq Back c.loop-count.groups c.next_back.new.self c.in-Some.field-0 c.in-Some.ensures.steps i.settled in
    record {
      settled = laws.settled nat_eq Back c.loop-count.groups c.next_back.new.self (Some c.in-Some.field-0) c.in-Some.ensures.steps i.settled;
      counted = search (rules, arith, ap length whole ∙ length-append (split nat_eq (groups_of c.next_back.new.self).remainder) _, i.counted);
      fits = search rules;
    }
