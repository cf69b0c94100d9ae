use Rattle.std.proofs.Common.{◌≡◌, List, length}
use Rattle.program_parts.proofs.TablesRead.{CutSoFar}
use Rattle.program_parts.specs.Records.{Record}
use Rattle.program_parts.specs.Rows.{Holds}
use Rattle.program_parts.proofs.table.push_rows.Given as goal

abbrev pub invariant-loop-number : goal.invariant-loop-number
invariant-loop-number l =
    (records : List Record) → Holds l.layout records l.block.value → length l.numbers ≡ length records
    → CutSoFar l.layout l.block.value records l.number-index l.at l.initial.rows.items l.rows.items
