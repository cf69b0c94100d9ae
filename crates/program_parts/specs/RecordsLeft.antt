-- The records that are not given yet.
use Rattle.std.specs.Prelude.{◌≡◌, ◌≢◌, ℕ, ◌+◌, List, [], ◌∷◌, length, IfSome, Bool, true, false, not, ◌&&◌, ◌||◌, if◌then◌else◌}
use Rattle.std.specs.Prelude.{Option, None, Some, option_map, is_none}
use Rattle.std.specs.List.{filter}
use Rattle.csv.specs.Reading.{records_from, source_of}
use Rattle.csv.specs.Reading.{reader_config, reader_state, reader_trim, reader_headers, took_first, names_headers}
use Rattle.csv.specs.declared.reader.Reader.{Reader}
use Rattle.csv.specs.declared.reader.Trim.{Trim}
use Rattle.csv.specs.declared.reader.Trim.TheVariants as trim
use Rattle.csv.specs.Records.{fields_of}
use Rattle.program_parts.specs.Columns.{IsPlace}
use Rattle.program_parts.specs.Records.{Record, Gives, has_width, names_in, rows_of, width_in}
use Rattle.program_parts.specs.declared.records.Format.{Format}
use Rattle.program_parts.specs.declared.records.Records.{Records}

-- the fields stay as they are
abbrev pub is_plain : Trim → Bool
is_plain trim.None = true
is_plain trim.Headers = false
is_plain trim.Fields = false
is_plain trim.All = false

-- the next read of a reader gives the next record, as it is
abbrev pub is_ready : {R : Type 0} → Reader R → Bool
is_ready reader = is_plain (reader_trim reader) && (took_first reader || (not (names_headers reader) && is_none (reader_headers reader)))

-- the records that a reader gives from now on, where they are known
abbrev pub reader_left : {R : Type 0} → (R → Option (List ℕ)) → Reader R → Option (List Record)
reader_left remaining reader =
    if is_ready reader
    then option_map (λ bytes. records_from (reader_config reader) (length bytes + 1) (reader_state reader) bytes)
    (source_of remaining reader)
    else None

-- the record that was read last, and those that the reader has left, of which there is none where the end was read
abbrev pub row_of : {R : Type 0} → Records R → Record
row_of records = fields_of records.row

abbrev pub unread_of : {R : Type 0} → (R → Option (List ℕ)) → Records R → Option (List Record)
unread_of remaining records = if records.is_over then Some [] else reader_left remaining records.reader

-- the records that are not given yet: one that was read may be among them
abbrev pub left_of : {R : Type 0} → (R → Option (List ℕ)) → Records R → Option (List Record)
left_of remaining records =
    if records.is_waiting then option_map (λ rows. row_of records ∷ rows) (unread_of remaining records) else unread_of remaining records

-- how many fields each record has, the names of the columns, and how many records are left out
abbrev pub width_of : {R : Type 0} → Records R → ℕ
width_of records = records.width

abbrev pub names_of : {R : Type 0} → Records R → Record
names_of records = fields_of records.names

abbrev pub count_of : {R : Type 0} → Records R → ℕ
count_of records = records.omitted.count

-- none of the rows of these bytes is given yet
pub record IsNew {R : Type 0} (remaining : R → Option (List ℕ)) (format : Format) (input : Option (List ℕ))
    (records : Records R) : Type 0 where
  pub left : Gives (option_map (rows_of format) input) (left_of remaining records) []
  pub width : IfSome input (λ bytes. width_of records ≡ width_in format bytes)
  pub names : IfSome input (λ bytes. names_of records ≡ names_in format bytes)
  pub none_left_out : count_of records ≡ 0

-- the column stands at this place, if the table has a record
abbrev pub IsColumnOf : {R : Type 0} → Records R → List ℕ → ℕ → Type 0
IsColumnOf records column place = width_of records ≢ 0 → IsPlace (width_of records) (names_of records) column place

-- Of all records those that are not left were given, and these are the rows among them, of so many fields. They are all of them if none
-- was left out.
pub record GivenSoFar (width : ℕ) (all left : Option (List Record)) (rows : List Record) (count : ℕ) : Type 0 where
  pub given : List Record
  pub gives : Gives all left given
  pub rows_are : rows ≡ filter (has_width width) given
  pub whole : count ≡ 0 → rows ≡ given

abbrev pub HasGiven : {R : Type 0} → (R → Option (List ℕ)) → Option (List Record) → List Record → Records R → Type 0
HasGiven remaining all rows records = GivenSoFar (width_of records) all (left_of remaining records) rows (count_of records)
