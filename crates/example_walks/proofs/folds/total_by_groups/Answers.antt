use Rattle.std.proofs.Common.{nat_eq, sum_by, ap, ◌∙◌}
use Rattle.slice_group_by.specs.End.TheVariants.{Front}
use Rattle.example_walks.proofs.folds.total_by_groups.Goals as goal

pub returns : goal.returns
returns c =
    let yielded = rw c.into_iter-group-iterator.ensures.into_iter_gives at c.loop-group.yielded_by in
    let whole = rw c.new-groups.ensures.remainder at
    (c.sees_pieces.ensures.whole nat_eq Front _ _ (c.new-groups.ensures.settled tt) (_, (_, yielded, c.in-None.ensures.steps))) in
    c.loop-group.invariant ∙ ap (sum_by (sum_by (λ x. x))) whole ∙ c.pieces_add_up.ensures.sums nat_eq (λ x. x) c.args.xs.now
