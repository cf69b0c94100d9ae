use Rattle.std.proofs.Common.{◌≡◌, ◌++◌, [], map, take}
use Rattle.csv.specs.Records.{fields_of, partial_of}
use Rattle.grouped_report.proofs.output.push_group.Given as goal

abbrev pub invariant-loop-field : goal.invariant-loop-field
invariant-loop-field l =
    (fields_of l.row ≡ fields_of l.initial.row ++ map (λ field. field.items) (take l.field-index l.group)) × (partial_of l.row ≡ [])
