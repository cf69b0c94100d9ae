use Rattle.std.proofs.Common.{nat_eq, ap, ◌∙◌}
use Rattle.std.specs.List.{fold}
use Rattle.slice_group_by.specs.End.TheVariants.{Front}
use Rattle.example_counts.specs.Longest.{longer}
use Rattle.example_counts.proofs.parts.longest_from.Goals as goal

pub returns : goal.returns
returns c =
    let yielded = rw c.into_iter-group-iterator.ensures.into_iter_gives at c.loop-group.yielded_by in
    c.loop-group.invariant ∙ ap (fold longer c.args.start) (rw c.new-groups.ensures.remainder at
    (c.sees_pieces.ensures.whole nat_eq Front _ _ (c.new-groups.ensures.settled tt) (_, (_, yielded, c.in-None.ensures.steps))))
