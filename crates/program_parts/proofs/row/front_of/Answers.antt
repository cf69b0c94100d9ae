use Rattle.std.proofs.Common.{arith}
use Rattle.program_parts.specs.Rows.{front}
use Rattle.program_parts.proofs.row.front_of.Goals as goal

pub returns-clause-front : goal.returns-clause-front
unfolding front
returns-clause-front c = omega arith
