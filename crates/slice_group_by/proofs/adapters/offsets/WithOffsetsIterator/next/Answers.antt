use Rattle.sgb_split.specs.declared.end.End.TheVariants.{Front}
use Rattle.slice_group_by.proofs.Queues.Offsets.{progress}
use Rattle.slice_group_by.proofs.adapters.offsets.WithOffsetsIterator.next.Goals as goal

pub returns-clause-goes : goal.returns-clause-goes
returns-clause-goes g c =
    progress _ _ _ g.Q.GroupQueue.gives g.met.Q.Offsets.takes _ Front _ _ _ c.pop_front.ensures.gives c.pop_front.ensures.can
