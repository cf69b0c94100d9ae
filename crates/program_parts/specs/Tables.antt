-- The rows of a table that are read.
use Rattle.std.specs.Prelude.{◌≡◌, List, [], ◌∷◌, ◌++◌, Option, Some, true, ℕ, length, map, flat_map}
use Rattle.program_parts.specs.Records.{Record}
use Rattle.program_parts.specs.RecordsLeft.{HasGiven, left_of, names_of, width_of}
use Rattle.program_parts.specs.Rows.{AreSorted, Row, blank, fields_in, row_at}
use Rattle.program_parts.specs.declared.layout.Layout.{Layout}
use Rattle.program_parts.specs.declared.records.Records.{Records}
use Rattle.program_parts.specs.declared.table.Table.{Table}

-- the names of the columns as a row, with no field where there is none
abbrev pub names_row : Layout → Record → Row
names_row layout [] = blank 0
names_row layout (name ∷ names) = row_at layout (name ∷ names)

module _ {R : Type 0} (remaining : R → Option (List ℕ)) where
  -- the fields of rows, one behind another, and so many numbers were read of records
  pub record ReadsFields (layout : Layout) (old new : Records R) (fields : Record) (numbers : List ℕ) : Type 0 where
    pub given : List Record
    pub fields_are : fields ≡ flat_map (λ fields. fields_in (row_at layout fields)) given
    pub count : length numbers ≡ length given
    pub gives : (all : Option (List Record)) (records : List Record) → HasGiven remaining all records old
        → HasGiven remaining all (records ++ given) new

  -- these rows were read so far, of these records
  pub record HasRead (all : Option (List Record)) (rows : List Row) (table : Table R) : Type 0 where
    pub records : List Record
    pub given : HasGiven remaining all records table.records
    pub rows_are : rows ≡ map (row_at table.layout) records

  -- it is the same table, and all of it is read if that is said
  pub record StaysTable (old new : Table R) : Type 0 where
    pub layout : new.layout ≡ old.layout
    pub width : width_of new.records ≡ width_of old.records
    pub names : names_of new.records ≡ names_of old.records
    pub end : new.is_last ≡ true → left_of remaining new.records ≡ Some []

  -- more rows are read, which stand behind the others
  pub record ReadsOn (old new : Table R) : Type 0 where
    pub stays : StaysTable old new
    pub more : List Row
    pub behind : new.rows.items ≡ old.rows.items ++ more
    pub reads : (all : Option (List Record)) (rows : List Row) → HasRead all rows old → HasRead all (rows ++ more) new

  -- all rows are read, and sorted
  pub record ReadsAll (old new : Table R) : Type 0 where
    pub stays : StaysTable old new
    pub is_last : new.is_last ≡ true
    pub rows : List Row
    pub sorted : AreSorted rows new.rows.items
    pub reads : (all : Option (List Record)) → HasRead all old.rows.items old → HasRead all rows new
