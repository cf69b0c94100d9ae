use Rattle.std.proofs.Common.{◌^◌, rules}
use Rattle.slice_group_by.specs.End.TheVariants.{Front}
use Rattle.example_counts.proofs.counts.longest_and_questions.Goals as goal

pub returns : goal.returns
returns c =
    let asked = rw c.map-lens.ensures.source at (c.mapped_calls_ask.ensures Front c.map-lens.result c.loop-len.len-iterator
    c.loop-len.yielded (rw c.into_iter-len-iterator.ensures.into_iter_gives at c.loop-len.yielded_by)) in
    let k = c.linear_counts.ensures.walk (λ j. j.predicate.0) 1 (2 ^ 64) (λ j k pair b h. search rules) _ _ asked (search rules)
    (c.in-None.ensures.steps).0.0 in
    search (rules, k.0, k.1 (search rules))
