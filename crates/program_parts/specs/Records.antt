-- The records of a table.
use Rattle.std.specs.Prelude.{◌≡◌, ℕ, List, [], ◌∷◌, ◌++◌, drop, ⊤, Bool, nat_eq, if◌then◌else◌, length, Option, None, Some, unwrap_or}
use Rattle.std.specs.List.{filter}
use Rattle.csv.specs.Records.{field_at}
use Rattle.csv.specs.Reading.{default_config, records, strip_bom}
use Rattle.csv.specs.declared.parser.Config.{Config}
use Rattle.program_parts.specs.declared.records.Format.{Format}

-- a record: its fields
abbrev pub Record : Type 0
Record = List (List ℕ)

-- the field at this place, with no byte where there is none
abbrev pub field : Record → ℕ → List ℕ
field row place = unwrap_or (field_at row place) []

-- how a text of this format is cut into records: as csv files are, with this byte between two fields
abbrev pub config_of : Format → Config
config_of format = record default_config { delimiter = format.delimiter }

-- the rows of a table in these bytes: its records, but for the first one if that has the names of the columns
abbrev pub rows_of : Format → List ℕ → List Record
rows_of format bytes = drop (if format.has_headers then 1 else 0) (records (config_of format) (strip_bom bytes))

-- the first record in these bytes: the names of the columns, or the first row; with no field where there is none
abbrev pub first_of : List Record → Record
first_of [] = []
first_of (fields ∷ rest) = fields

abbrev pub first_record : Format → List ℕ → Record
first_record format bytes = first_of (records (config_of format) (strip_bom bytes))

-- how many fields each row has: as the format says, or as many as the first record
abbrev pub width_in : Format → List ℕ → ℕ
width_in format bytes = unwrap_or format.width (length (first_record format bytes))

-- the record has so many fields
abbrev pub has_width : ℕ → Record → Bool
has_width width row = nat_eq (length row) width

-- the rows of that width: the others are left out
abbrev pub whole_rows : Format → List ℕ → List Record
whole_rows format bytes = filter (has_width (width_in format bytes)) (rows_of format bytes)

-- the names of the columns, if a table of this format has them
abbrev pub names_in : Format → List ℕ → Record
names_in format bytes = if format.has_headers then first_record format bytes else []

-- these records were given, and the others are left, where they are known
abbrev pub Gives : Option (List Record) → Option (List Record) → List Record → Type 0
Gives None left given = ⊤
Gives (Some all) None given = ⊥
Gives (Some all) (Some left) given = all ≡ given ++ left
