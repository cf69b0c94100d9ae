use Rattle.std.proofs.Common.{rules, arith, ap}
use Rattle.slice_merge_join.specs.Asking.{walk_due}
use Rattle.example_counts.proofs.counts.comparisons_of_join.Goals as goal

pub returns : goal.returns
returns c =
    let asked = c.merges_ask.ensures.yields c.new-join.result c.loop.iterator' c.loop.yielded
    (rw c.into_iter-iterator.ensures.into_iter_gives at c.loop.yielded_by) in
    let k = c.join_counts.ensures (λ f. f.0.now) (λ f. f.0.ghost_name) 1 (λ f h q o called. search rules) c.new-join.result c.loop.iterator'
    asked in
    search (rules, arith, k.0, k.1, ap walk_due c.new-join.ensures.sides)
