use Rattle.std.proofs.Common.{◌∙◌, ap, length, map}
use Rattle.slice_group_by.specs.End.TheVariants.{Front}
use Rattle.example_walks.proofs.equal_groups.run_lengths.Goals as goal

pub returns-clause-count : goal.returns-clause-count
returns-clause-count g c =
    let yielded = rw c.into_iter-group-iterator.ensures.into_iter_gives at c.loop-group.yielded_by in
    c.loop-group.invariant.counted ∙ rw c.new-groups.ensures.remainder at (c.sees_pieces.ensures.count g.T.PartialEq.eq Front _ _
    (c.new-groups.ensures.settled tt) (_, (_, yielded, c.in-None.ensures.steps)))

pub returns-clause-written : goal.returns-clause-written
returns-clause-written g c =
    let yielded = rw c.into_iter-group-iterator.ensures.into_iter_gives at c.loop-group.yielded_by in
    c.loop-group.invariant.written ∙ ap (map length) (rw c.new-groups.ensures.remainder at
    (c.sees_pieces.ensures.whole g.T.PartialEq.eq Front _ _ (c.new-groups.ensures.settled tt) (_, (_, yielded, c.in-None.ensures.steps))))
