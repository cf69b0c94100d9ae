use Rattle.std.proofs.Common.{arith}
use Rattle.sgb_split.specs.declared.end.End.TheVariants.{Back}
use Rattle.slice_group_by.proofs.Queues.Offsets.{begins, fewer}
use Rattle.slice_group_by.proofs.adapters.offsets.WithOffsetsGroupQueue.pop_back.Goals as goal

pub returns-clause-gives : goal.returns-clause-gives
returns-clause-gives g c =
    let gives = c.in_ok-group.ensures.gives in
    let offset = c.offset.ensures in
    let takes = g.met.Q.Offsets.takes Back _ _ _ gives in (
      gives,
      begins _ _ _ Back _ _ _ _ takes offset.stands (omega (arith, offset))
          (omega (arith, offset, c.remainder_len.ensures, c.group_len.ensures, fewer _ _ _ Back _ _ _ takes)),
    )
