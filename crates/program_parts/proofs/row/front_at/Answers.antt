use Rattle.std.proofs.Common.{arith}
use Rattle.program_parts.proofs.RowFields.{front_is}
use Rattle.program_parts.proofs.row.front_at.Goals as goal

pub returns-clause-front : goal.returns-clause-front
returns-clause-front c =
    front_is _ c.args.block.now.key c.args.at _ c.if-block-eq0.false (omega (arith, c.requires))
    (rw c.field_or_empty.ensures at c.front_of.ensures.front) (λ i. rw c.field_or_empty.ensures at (c.front_of.ensures.bytes i))
