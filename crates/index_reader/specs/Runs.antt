-- What a run reads and writes.
use Rattle.std.specs.Prelude.{◌≡◌, ℕ, List, [], ◌∷◌, ◌++◌, Bool, true, map, Option}
use Rattle.std.specs.List.{filter}
use Rattle.csv.specs.declared.writer.Writer.{Writer}
use Rattle.program_parts.specs.Columns.{AreKeyPlaces, IsColumn}
use Rattle.program_parts.specs.Records.{Record, names_in, rows_of, whole_rows}
use Rattle.program_parts.specs.RecordsLeft.{count_of, names_of}
use Rattle.program_parts.specs.Rows.{Row}
use Rattle.program_parts.specs.Written.{Writes}
use Rattle.program_parts.specs.declared.records.Format.{Format}
use Rattle.program_parts.specs.declared.table.Table.{Table}
use Rattle.index_reader.specs.Answers.{answers, found_rows, has_key, of_key}

-- the names of columns as they are written, if there are any
abbrev pub header : Record → List Record
header [] = []
header (name ∷ names) = (name ∷ names) ∷ []

-- each record of a table in these bytes has as many fields as it must
abbrev pub HasNoOther : Format → List ℕ → Type 0
HasNoOther format bytes = whole_rows format bytes ≡ rows_of format bytes

-- The index in these bytes is read, with its key in the columns of these texts. The rows that have a key are the records that have it.
pub record IsIndex {R : Type 0} (format : Format) (bytes : List ℕ) (columns : List (List ℕ)) (table : Table R) : Type 0 where
  pub key_at : AreKeyPlaces (IsColumn format bytes) columns table.layout.key.items
  pub names : names_of table.records ≡ names_in format bytes
  pub found : (key : Record) → map (λ row. row.rest) (of_key key table.rows.items)
      ≡ filter (has_key table.layout.key.items key) (whole_rows format bytes)
  pub whole : count_of table.records ≡ 0 → HasNoOther format bytes

-- the queries in these bytes are answered by rows of an index, and each record is one if `is_whole` is true
pub record AnswersBy {W : Type 0} (contents : W → Option (List ℕ)) (rows : List Row) (format : Format) (bytes : List ℕ) (is_whole : Bool)
    (before after : Writer W) : Type 0
  where
    pub writes : Writes contents before after (found_rows rows (whole_rows format bytes))
    pub whole : is_whole ≡ true → HasNoOther format bytes

-- The names of the index in the one file and the answers to the queries in the other are written, with the key in the columns of these
-- texts. Records of another width are left out, and where `is_whole` is true there is none.
pub record Answers {W : Type 0} (contents : W → Option (List ℕ)) (format other : Format) (columns : List (List ℕ)) (index queries : List ℕ)
    (is_whole : Bool) (before after : Writer W) : Type 0
  where
    pub places : List ℕ
    pub key_at : AreKeyPlaces (IsColumn format index) columns places
    pub writes : Writes contents before after
        (header (names_in format index) ++ answers places (whole_rows format index) (whole_rows other queries))
    pub whole : is_whole ≡ true → HasNoOther format index × HasNoOther other queries
