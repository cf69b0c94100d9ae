use Rattle.std.proofs.Common.{◌≡◌, take}
use Rattle.grouped_report.specs.Groups.{with_rows}
use Rattle.grouped_report.proofs.summary.Summary.add_rows.Given as goal

abbrev pub invariant-loop-row : goal.invariant-loop-row
invariant-loop-row l = l.self ≡ with_rows l.initial.self (take l.row-index l.rows)
