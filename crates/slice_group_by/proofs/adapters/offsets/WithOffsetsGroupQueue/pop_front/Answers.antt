use Rattle.std.proofs.Common.{arith}
use Rattle.sgb_split.specs.declared.end.End.TheVariants.{Front}
use Rattle.slice_group_by.proofs.Queues.Offsets.{begins}
use Rattle.slice_group_by.proofs.adapters.offsets.WithOffsetsGroupQueue.pop_front.Goals as goal

pub returns-clause-gives : goal.returns-clause-gives
returns-clause-gives g c =
    let gives = c.in_ok-group.ensures.gives in
    let offset = c.offset-offset.ensures in (
      gives,
      begins _ _ _ Front _ _ _ _ (g.met.Q.Offsets.takes Front _ _ _ gives) offset.stands (omega (arith, offset)) offset.offset,
    )
