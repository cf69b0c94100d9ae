use Rattle.std.proofs.Common.{length}
use Rattle.std.specs.Iterator.{Yields}
use Rattle.slice_group_by.specs.End.TheVariants.{Front}
use Rattle.example_counts.proofs.queues.all_groups.Given as goal

abbrev pub invariant-loop-group : goal.invariant-loop-group
invariant-loop-group g l = record {
  can : g.Q.GroupQueue.can_pop l.queue;
  given : Yields (g.Q.GroupQueue.gives Front) l.initial.queue l.groups.items l.queue;
}

abbrev pub decreases-loop-group : goal.decreases-loop-group
decreases-loop-group g l = length (g.Q.GroupQueue.remainder l.queue)
