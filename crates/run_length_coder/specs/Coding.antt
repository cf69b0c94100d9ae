-- What is written of bytes, a record for each of their runs, and of such records. A run is a byte, and how many of it there are.
use Rattle.std.specs.Prelude.{◌≡◌, ℕ, ◌+◌, List, [], ◌∷◌, length, flat_map, replicate, decimal, nat_eq, slice_index}
use Rattle.std.specs.Prelude.{Bool, Option, None, Some, cond, false}
use Rattle.std.specs.Io.KnownBytes.{Appends}
use Rattle.csv.specs.Writing.{default_writer, row_text}
use Rattle.program_parts.specs.Decimals.{number_in}
use Rattle.program_parts.specs.Records.{Record, field}
use Rattle.program_parts.specs.Said.{AreSaid}
use Rattle.program_parts.specs.declared.records.Format.{Format}
use Rattle.slice_group_stream.specs.Split.{last, split, without_last}

-- runs stand in CSV as `csv`'s defaults write it: commas, two fields a record, and no names of columns
abbrev pub runs_format : Format
runs_format = record { has_headers = false; delimiter = 44; width = Some 2 }

-- the bytes of a run
abbrev pub copies : ℕ × ℕ → List ℕ
copies run = replicate run.1 run.0

-- the record of a group of equal bytes: how many there are, and the byte as a number
abbrev pub record_of : List ℕ → Record
record_of group = decimal (length group) ∷ decimal (slice_index group 0) ∷ []

-- what bytes are coded as: the CSV of the records of their groups, in order
abbrev pub coded : List ℕ → List ℕ
coded bytes = flat_map (λ group. row_text default_writer (record_of group)) (split nat_eq bytes)

-- the byte of a group and its length, and both with a part more
abbrev pub run_of : List ℕ → ℕ × ℕ
run_of group = (slice_index group 0, length group)

abbrev pub longer_run : ℕ × ℕ → List ℕ → ℕ × ℕ
longer_run run part = (run.0, run.1 + length part)

-- the text of the record of a run, and of the one that is open
abbrev pub run_text : ℕ × ℕ → List ℕ
run_text run = row_text default_writer (decimal run.1 ∷ decimal run.0 ∷ [])

abbrev pub text_of : Option (ℕ × ℕ) → List ℕ
text_of None = []
text_of (Some run) = run_text run

-- a run whose count is not 0
abbrev pub run_if : ℕ → ℕ → Option (ℕ × ℕ)
run_if byte count = cond (nat_eq count 0) None (Some (byte, count))

-- the run that a record of two fields says: they are the count, of 64 bits and not 0, and the byte, both as decimal numbers
abbrev pub run_with : Option ℕ → Option ℕ → Option (ℕ × ℕ)
run_with None byte = None
run_with (Some count) None = None
run_with (Some count) (Some byte) = run_if byte count

abbrev pub run_in : Record → Option (ℕ × ℕ)
run_in fields = run_with (number_in 64 (field fields 0)) (number_in 8 (field fields 1))

-- The bytes of the runs that the records in these bytes say are written; the other records are left out, and there is none if `are_runs`
-- is true.
pub record Decodes (bytes : List ℕ) (are_runs : Bool) (before after : Option (List ℕ)) : Type 0 where
  pub runs : List (ℕ × ℕ)
  pub reads : AreSaid run_in runs_format bytes runs are_runs
  pub writes : Appends before after (flat_map copies runs)

-- of the runs the records of all are written but that of the last, which is open
pub record Written (before after : Option (List ℕ)) (runs : List (ℕ × ℕ)) (byte count : ℕ) : Type 0 where
  pub writes : Appends before after (flat_map run_text (without_last runs))
  pub is : run_if byte count ≡ last runs
