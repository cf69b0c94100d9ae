use Rattle.std.proofs.Common.{◌≡◌, ◌++◌, drop, map, option_map}
use Rattle.csv.specs.Records.{fields_of}
use Rattle.program_parts.specs.Records.{field}
use Rattle.grouped_report.specs.Input.{amounts_in}
use Rattle.grouped_report.proofs.reading.push_amounts.Given as goal

abbrev pub invariant-loop-place : goal.invariant-loop-place
invariant-loop-place l =
    (l.row.group ≡ l.initial.row.group)
    × (amounts_in (map (field (fields_of l.fields)) l.places)
    ≡ option_map (λ others. l.row.amounts ++ others) (amounts_in (map (field (fields_of l.fields)) (drop l.place-index l.places))))
