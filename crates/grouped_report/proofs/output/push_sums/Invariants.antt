use Rattle.std.proofs.Common.{◌≡◌, ◌++◌, [], map, take}
use Rattle.csv.specs.Records.{fields_of, partial_of}
use Rattle.grouped_report.specs.Amounts.{sum_text}
use Rattle.grouped_report.proofs.output.push_sums.Given as goal

abbrev pub invariant-loop-sum : goal.invariant-loop-sum
invariant-loop-sum l =
    (fields_of l.row ≡ fields_of l.initial.row ++ map sum_text (take l.sum-index l.sums)) × (partial_of l.row ≡ [])
