use Rattle.std.proofs.Common.{◌≡◌, ◌<◌, ◌≤◌, ◌^◌, ◌++◌}
use Rattle.grouped_report.specs.Amounts.{digits_behind}
use Rattle.grouped_report.proofs.amount.push_digits.Given as goal

abbrev pub invariant-loop-billionths : goal.invariant-loop-billionths
invariant-loop-billionths l = record {
  few : l.places ≤ 9;
  below : l.billionths < 10 ^ l.places;
  same : l.text.items ++ digits_behind l.places l.billionths ≡ l.initial.text.items ++ digits_behind 9 l.initial.billionths;
}

abbrev pub decreases-loop-billionths : goal.decreases-loop-billionths
decreases-loop-billionths l = l.places
