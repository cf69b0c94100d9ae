-- What a run reads and writes.
use Rattle.std.specs.Prelude.{◌≡◌, ℕ, List, ◌++◌, Bool, true, false, Option, IfSome, map}
use Rattle.std.specs.List.{AllZip}
use Rattle.csv.specs.declared.writer.Writer.{Writer}
use Rattle.slice_group_by.specs.Split.{split}
use Rattle.program_parts.specs.Columns.{AreKeyPlaces, IsColumn}
use Rattle.program_parts.specs.Records.{names_in}
use Rattle.program_parts.specs.Said.{AreSaid}
use Rattle.program_parts.specs.Written.{Writes}
use Rattle.program_parts.specs.declared.records.Format.{Format}
use Rattle.grouped_report.specs.Groups.{AreSorted, Row, same_group, summary}
use Rattle.grouped_report.specs.Input.{row_in}
use Rattle.grouped_report.specs.Output.{names_rows, summary_row}
use Rattle.grouped_report.specs.declared.columns.Places.{Places}

-- these are the rows, as they were or sorted
abbrev pub AreInOrder : Bool → List Row → List Row → Type 0
AreInOrder true said rows = rows ≡ said
AreInOrder false said rows = AreSorted said rows

-- The report of a table in these bytes is written, by the columns of these texts: the names, and the summary of each group of the rows that
-- the records say, in their order or sorted. The other records are left out, and there is none if `is_whole` is true.
pub record Reports {W : Type 0} (contents : W → Option (List ℕ)) (format : Format) (by sum : List (List ℕ)) (counts runs : Bool)
    (bytes : List ℕ) (is_whole : Bool) (before after : Writer W) : Type 0
  where
    pub places : Places
    pub by_at : AreKeyPlaces (IsColumn format bytes) by places.by.items
    pub sum_at : AllZip (IsColumn format bytes) sum places.sum.items
    pub said : List Row
    pub are_said : AreSaid (row_in places) format bytes said is_whole
    pub rows : List Row
    pub in_order : AreInOrder runs said rows
    pub writes : Writes contents before after
        (names_rows counts places (names_in format bytes) ++ map (λ group. summary_row counts (summary group)) (split same_group rows))

-- The summaries of the groups of the rows that the records of an input say are written, in their order or sorted.
pub record Summarizes {W : Type 0} (contents : W → Option (List ℕ)) (counts runs : Bool) (places : Places) (format : Format)
    (input : Option (List ℕ)) (is_whole : Bool) (before after : Writer W) : Type 0
  where
    pub said : List Row
    pub are_said : IfSome input (λ bytes. AreSaid (row_in places) format bytes said is_whole)
    pub rows : List Row
    pub in_order : AreInOrder runs said rows
    pub writes : Writes contents before after (map (λ group. summary_row counts (summary group)) (split same_group rows))
