use Rattle.std.proofs.Common.{◌∙◌}
use Rattle.slice_group_by.specs.End.TheVariants.{Front}
use Rattle.example_walks.proofs.equal_groups.count_groups.Goals as goal

pub returns-clause-some : goal.returns-clause-some
returns-clause-some g c l =
    let yielded = rw c.into_iter-group-iterator.ensures.into_iter_gives at c.loop-group.yielded_by in
    let all = c.sees_pieces.ensures.count g.T.PartialEq.eq Front c.new-groups.result c.loop-group.yielded
    (c.new-groups.ensures.settled tt) (_, (_, yielded, c.in-None.ensures.steps)) in
    c.loop-group.invariant.counted ∙ rw c.new-groups.ensures.remainder at all
    ∙ c.one_split.ensures.count g.T.PartialEq.eq c.args.xs.now l
