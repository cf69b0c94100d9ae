use Rattle.std.proofs.Common.{◌≡◌, ◌++◌, map, take}
use Rattle.csv.specs.Records.{fields_of}
use Rattle.program_parts.specs.Records.{field}
use Rattle.grouped_report.proofs.reading.push_group.Given as goal

abbrev pub invariant-loop-place : goal.invariant-loop-place
invariant-loop-place l =
    (l.row.group ≡ l.initial.row.group ++ map (field (fields_of l.fields)) (take l.place-index l.places))
    × (l.row.amounts ≡ l.initial.row.amounts)
