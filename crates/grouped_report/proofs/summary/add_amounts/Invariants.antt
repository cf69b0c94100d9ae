use Rattle.std.proofs.Common.{◌≡◌, take}
use Rattle.grouped_report.specs.Groups.{add}
use Rattle.grouped_report.proofs.summary.add_amounts.Given as goal

abbrev pub invariant-loop-i : goal.invariant-loop-i
invariant-loop-i l = l.sums.items ≡ add l.initial.sums.items (take l.i l.amounts)
