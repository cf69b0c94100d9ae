use Rattle.slice_group_by.specs.End.TheVariants.{Front}
use Rattle.example_counts.proofs.queues.all_groups.Goals as goal

pub returns-clause-pieces : goal.returns-clause-pieces
returns-clause-pieces g c p settled =
    c.sees_pieces.ensures.whole p Front c.args.queue c.loop-group.groups.items settled
    (_, (_, c.loop-group.invariant.given, c.in_default.ensures.gives))
