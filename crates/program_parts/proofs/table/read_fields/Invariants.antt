use Rattle.std.proofs.Common.{◌≡◌, []}
use Rattle.csv.specs.Records.{fields_of, partial_of}
use Rattle.program_parts.specs.RecordsLeft.{names_of, width_of}
use Rattle.program_parts.specs.Tables.{ReadsFields}
use Rattle.program_parts.proofs.table.read_fields.Given as goal

abbrev pub invariant-loop : goal.invariant-loop
invariant-loop g l =
    (width_of l.records ≡ width_of l.initial.records) × (names_of l.records ≡ names_of l.initial.records) × (partial_of l.fields ≡ [])
    × ReadsFields g.R.Read.remaining l.layout l.initial.records l.records (fields_of l.fields) l.numbers.items
