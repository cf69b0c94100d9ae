use Rattle.std.proofs.Common.{map, take}
use Rattle.std.specs.List.{AllZip}
use Rattle.program_parts.specs.RecordsLeft.{IsColumnOf}
use Rattle.program_parts.proofs.records.Records.places_of.Given as goal

abbrev pub invariant-loop-column : goal.invariant-loop-column
invariant-loop-column g l =
    AllZip (IsColumnOf l.self) (map (λ column. column.now) (take l.column-index l.columns)) l.places.items
