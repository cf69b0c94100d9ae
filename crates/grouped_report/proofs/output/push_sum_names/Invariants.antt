use Rattle.std.proofs.Common.{◌≡◌, ◌++◌, [], map, take}
use Rattle.csv.specs.Records.{fields_of, partial_of}
use Rattle.grouped_report.specs.Output.{sum_name}
use Rattle.grouped_report.proofs.output.push_sum_names.Given as goal

abbrev pub invariant-loop-place : goal.invariant-loop-place
invariant-loop-place l =
    (fields_of l.row ≡ fields_of l.initial.row ++ map (sum_name (fields_of l.names) l.by) (take l.place-index l.places))
    × (partial_of l.row ≡ [])
