use Rattle.std.proofs.Common.{◌≡◌, ℕ, [], List, ◌++◌, map, Option}
use Rattle.std.specs.Option.{option_to_list}
use Rattle.program_parts.specs.RecordsLeft.{IsNew}
use Rattle.program_parts.specs.Said.{HasSaid}
use Rattle.program_parts.specs.Written.{Writes}
use Rattle.program_parts.specs.declared.records.Format.{Format}
use Rattle.slice_group_stream.specs.Closing.{ClosedSoFar}
use Rattle.slice_group_stream.specs.Split.{last}
use Rattle.grouped_report.specs.Groups.{Row, Summary, same_group, summary_if}
use Rattle.grouped_report.specs.Input.{row_in}
use Rattle.grouped_report.specs.Output.{summary_row}
use Rattle.grouped_report.proofs.run.write_runs.Given as goal

abbrev pub invariant-loop : goal.invariant-loop
invariant-loop g l =
    (l.groups.closed.items ≡ [])
    × ((format : Format) (input : Option (List ℕ)) → IsNew g.R.Read.remaining format input l.initial.records
    → (said : List Row) × (written : List Summary) × Writes g.W.Write.contents l.initial.out l.out (map (summary_row l.counts) written)
    × ClosedSoFar same_group summary_if option_to_list (last said) (written ++ l.groups.closed.items) l.groups.current said
    × HasSaid (row_in l.places) g.R.Read.remaining format input said l.records)
