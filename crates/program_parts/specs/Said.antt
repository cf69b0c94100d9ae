-- What is kept of rows: of each what it says. Those that say nothing are left out.
use Rattle.std.specs.Prelude.{◌≡◌, ℕ, List, length, true, Bool, IfSome, Option, option_map}
use Rattle.std.specs.List.{filter_map}
use Rattle.program_parts.specs.Records.{Record, rows_of, whole_rows, width_in}
use Rattle.program_parts.specs.RecordsLeft.{HasGiven, count_of, width_of}
use Rattle.program_parts.specs.declared.records.Format.{Format}
use Rattle.program_parts.specs.declared.records.Records.{Records}

module _ {A : Type 0} (says : Record → Option A) where
  -- these are kept of the rows of a table in these bytes, and no record says nothing if `is_whole` is true
  pub record AreSaid (format : Format) (bytes : List ℕ) (kept : List A) (is_whole : Bool) : Type 0 where
    pub kept_are : kept ≡ filter_map says (whole_rows format bytes)
    pub whole : is_whole ≡ true → length kept ≡ length (rows_of format bytes)

  -- these are kept of the rows that a reader of an input gave so far
  pub record HasSaid {R : Type 0} (remaining : R → Option (List ℕ)) (format : Format) (input : Option (List ℕ)) (kept : List A)
      (records : Records R) : Type 0
    where
      pub width : IfSome input (λ bytes. width_of records ≡ width_in format bytes)
      pub rows : List Record
      pub given : HasGiven remaining (option_map (rows_of format) input) rows records
      pub kept_are : kept ≡ filter_map says rows
      pub whole : count_of records ≡ 0 → length kept ≡ length rows
