use Rattle.program_parts.specs.Tables.{ReadsOn}
use Rattle.program_parts.proofs.table.Table.read_all.Given as goal

abbrev pub invariant-loop : goal.invariant-loop
invariant-loop g l = ReadsOn g.R.Read.remaining l.initial.self l.self
