use Rattle.std.proofs.Common.{map, take}
use Rattle.program_parts.specs.Written.{Writes}
use Rattle.index_reader.proofs.answers.write_rows.Given as goal

abbrev pub invariant-loop-row : goal.invariant-loop-row
invariant-loop-row g l = Writes g.W.Write.contents l.initial.out l.out (map (λ row. row.rest) (take l.row-index l.rows))
