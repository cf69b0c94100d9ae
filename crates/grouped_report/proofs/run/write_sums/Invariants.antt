use Rattle.std.proofs.Common.{◌≡◌, ℕ, List, Option}
use Rattle.program_parts.specs.RecordsLeft.{IsNew}
use Rattle.program_parts.specs.Said.{HasSaid}
use Rattle.program_parts.specs.declared.records.Format.{Format}
use Rattle.grouped_report.specs.Groups.{Row}
use Rattle.grouped_report.specs.Input.{row_in}
use Rattle.grouped_report.specs.Sums.{IsSummed}
use Rattle.grouped_report.proofs.run.write_sums.Given as goal

abbrev pub invariant-loop : goal.invariant-loop
invariant-loop g l =
    (l.out ≡ l.initial.out)
    × ((format : Format) (input : Option (List ℕ)) → IsNew g.R.Read.remaining format input l.initial.records
    → (said : List Row) × IsSummed said l.sums.sums.items l.sums.waiting.items
    × HasSaid (row_in l.places) g.R.Read.remaining format input said l.records)
