-- The rows that answer queries.
use Rattle.std.specs.Prelude.{ℕ, List, Bool, flat_map, map}
use Rattle.std.specs.List.{filter}
use Rattle.std.specs.Ordering.{is_eq}
use Rattle.program_parts.specs.Records.{Record, field}
use Rattle.program_parts.specs.Rows.{Row, key_cmp}

-- the rows that have the key, in their order
abbrev pub of_key : Record → List Row → List Row
of_key key rows = filter (λ row. is_eq (key_cmp row.key key)) rows

-- the rows that are found for keys, each without its own
abbrev pub found_rows : List Row → List Record → List Record
found_rows rows keys = flat_map (λ key. map (λ row. row.rest) (of_key key rows)) keys

-- the fields at these places of a record are the key
abbrev pub has_key : List ℕ → Record → Record → Bool
has_key places key fields = is_eq (key_cmp (map (field fields) places) key)

-- the answers to queries, each of which is a key, in their order: all records of the index that have it, in theirs
abbrev pub answers : List ℕ → List Record → List Record → List Record
answers places index queries = flat_map (λ key. filter (has_key places key) index) queries
