use Rattle.std.proofs.Common.{◌≡◌, ◌++◌, [], map, take}
use Rattle.csv.specs.Records.{fields_of, partial_of}
use Rattle.program_parts.specs.Records.{field}
use Rattle.program_parts.proofs.columns.push_fields.Given as goal

abbrev pub invariant-loop-place : goal.invariant-loop-place
invariant-loop-place l =
    (fields_of l.row ≡ fields_of l.initial.row ++ map (field (fields_of l.fields)) (take l.place-index l.places)) × (partial_of l.row ≡ [])
