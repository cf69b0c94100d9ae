-- Rows that are written as the records of a csv file.
use Rattle.std.specs.Prelude.{◌≡◌, ℕ, List, [], ◌∷◌, flat_map, Option, None, Some, false}
use Rattle.std.specs.Io.KnownBytes.{Appends}
use Rattle.csv.specs.Writing.{default_writer, fields_written, has_written, row_text, text_written, with_delimiter, writer_setup}
use Rattle.csv.specs.declared.writer.Writer.{Writer}
use Rattle.csv.specs.declared.writer.WriterBuilder.{WriterBuilder}
use Rattle.program_parts.specs.Records.{Record}

-- a writer with this byte between two fields
abbrev pub setup_of : ℕ → WriterBuilder
setup_of delimiter = with_delimiter default_writer delimiter

-- the text of rows
abbrev pub rows_text : ℕ → List Record → List ℕ
rows_text delimiter rows = flat_map (row_text (setup_of delimiter)) rows

-- the row of the names of two columns, where there are any
abbrev pub two_names : Option (List ℕ) → Option (List ℕ) → List Record
two_names (Some first) (Some second) = (first ∷ second ∷ []) ∷ []
two_names None second = []
two_names (Some first) None = []

-- a writer of that kind is between two records
pub record IsReady {W : Type 0} (delimiter : ℕ) (out : Writer W) : Type 0 where
  pub setup : writer_setup out ≡ setup_of delimiter
  pub no_field : fields_written out ≡ 0
  pub no_byte : has_written out ≡ false

-- it wrote these rows, and is ready again
pub record Writes {W : Type 0} (contents : W → Option (List ℕ)) (old new : Writer W) (rows : List Record) : Type 0 where
  pub writes : (delimiter : ℕ) → IsReady delimiter old
      → IsReady delimiter new × Appends (text_written contents old) (text_written contents new) (rows_text delimiter rows)
