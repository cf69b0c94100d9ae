use Rattle.std.proofs.Common.{◌≡◌, [], replicate}
use Rattle.csv.specs.Records.{fields_of, partial_of}
use Rattle.program_parts.proofs.row.empty_fields.Given as goal

abbrev pub invariant-loop : goal.invariant-loop
invariant-loop l = (fields_of l.fields ≡ replicate l.counter []) × (partial_of l.fields ≡ [])
