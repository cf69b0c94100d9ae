use Rattle.sgb_split.specs.declared.end.End.TheVariants.{Back}
use Rattle.slice_group_by.proofs.Queues.Offsets.{progress}
use Rattle.slice_group_by.proofs.adapters.offsets.WithOffsetsDoubleEndedIterator.next_back.Goals as goal

pub returns-clause-goes : goal.returns-clause-goes
returns-clause-goes g c =
    progress _ _ _ g.Q.GroupQueue.gives g.met.Q.Offsets.takes _ Back _ _ _ c.pop_back.ensures.gives c.pop_back.ensures.can
