use Rattle.std.proofs.Common.{arith}
use Rattle.program_parts.proofs.Places.{zip_column}
use Rattle.program_parts.specs.RecordsLeft.{IsColumnOf}
use Rattle.program_parts.proofs.records.Records.places_of.Goals as goal

pub loop-column-preserved : goal.loop-column-preserved
loop-column-preserved g c =
    zip_column (IsColumnOf c.args.self.now) c.args.columns.now c.loop-column.places.items _ c.loop-column.column-index _
    c.in_ok-place.place (omega arith) c.loop-column.invariant c.in_ok-place.ensures c.in_ok-push.ensures
