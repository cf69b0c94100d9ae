use Rattle.std.proofs.Common.{◌≡◌, ◌≢◌, ℕ, List, [], Bool, map, Option, None, Some, IfSome, append-nil, subst}
use Rattle.std.specs.List.{AllZip}
use Rattle.csv.specs.declared.writer.Writer.{Writer}
use Rattle.slice_group_by.specs.Split.{split}
use Rattle.program_parts.proofs.Writing.{writes_both}
use Rattle.program_parts.specs.Columns.{AreKeyPlaces, IsPlace}
use Rattle.program_parts.specs.RecordsLeft.{names_of, width_of}
use Rattle.program_parts.specs.Records.{Record, names_in, width_in}
use Rattle.program_parts.specs.Written.{Writes}
use Rattle.program_parts.specs.declared.records.Format.{Format}
use Rattle.grouped_report.specs.Groups.{same_group, summary}
use Rattle.grouped_report.specs.Output.{names_rows, summary_row}
use Rattle.grouped_report.specs.Runs.{Reports, Summarizes}
use Rattle.grouped_report.specs.declared.columns.Places.{Places}
use Rattle.grouped_report.proofs.run.write_report.Goals as goal

-- the report, as its parts say it
reports : {W : Type 0} (contents : W → Option (List ℕ)) (format : Format) (by sum : List (List ℕ)) (counts runs : Bool)
    (input : Option (List ℕ)) (width : ℕ) (names : Record) (places : Places) (w : Bool) (before named after flushed : Writer W)
    → IfSome input (λ bytes. width ≡ width_in format bytes) → IfSome input (λ bytes. names ≡ names_in format bytes)
    → AreKeyPlaces (λ column place. width ≢ 0 → IsPlace width names column place) by places.by.items
    → AllZip (λ column place. width ≢ 0 → IsPlace width names column place) sum places.sum.items
    → Writes contents before named (names_rows counts places names)
    → Summarizes contents counts runs places format input w named after
    → Writes contents after flushed [] → IfSome input (λ bytes. Reports contents format by sum counts runs bytes w before flushed)
reports contents format by sum counts runs None width names places w before named after flushed e f by_at sum_at header s flush = tt
reports contents format by sum counts runs (Some bytes) width names places w before named after flushed e f by_at sum_at header s flush =
    let rows = map (λ group. summary_row counts (summary group)) (split same_group s.rows) in
    let body = subst (Writes contents named flushed) (append-nil rows) (writes_both contents named after flushed rows [] s.writes flush) in
    record {
      places = places;
      by_at = rw (e, f) at by_at;
      sum_at = rw (e, f) at sum_at;
      said = s.said;
      are_said = s.are_said;
      rows = s.rows;
      in_order = s.in_order;
      writes = rw f at (writes_both contents before named flushed _ rows header body);
    }

pub returns-clause-reports : goal.returns-clause-reports
returns-clause-reports g c =
    let new = c.in_ok-records.ensures in
    let input = g.R.Read.remaining c.args.source.input in
    let format = c.args.source.format in
    let places : Places = record { by = c.in_ok-key_places.field-0; sum = c.in_ok-places_of.field-0 } in
    reports g.W.Write.contents format _ _ c.args.question.counts c.args.question.runs input (width_of c.in_ok-records.records)
    (names_of c.in_ok-records.records) places c.in_ok-is_whole.is_whole _ _ _ c.pass_on.new.out new.width new.names
    c.in_ok-key_places.ensures c.in_ok-places_of.ensures (rw c.names.ensures at c.in_ok-write_names.ensures)
    (c.in_ok-is_whole.ensures format input new) c.in_ok-pass_on.ensures.writes
