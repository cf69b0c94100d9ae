use Rattle.std.proofs.Common.{◌^◌, rules}
use Rattle.slice_group_by.specs.End.TheVariants.{Front}
use Rattle.example_counts.proofs.counts_of_text.questions_of_text.Goals as goal

pub loop-preserved : goal.loop-preserved
loop-preserved c =
    c.linear_counts.ensures.more (λ j. j.predicate.0) 1 (2 ^ 64) (λ j k pair b h. search rules) _ _ _ c.loop.invariant
    (c.calls_ask.ensures.call Front c.loop.groups c.next.new.self c.next.result c.next.ensures.steps)

pub returns : goal.returns
returns c =
    let fewer = c.characters_fit.ensures c.args.text.now in
    search (rules, c.loop.invariant.place, c.loop.invariant.count (search rules))
