-- Columns of a table.
use Rattle.std.specs.Prelude.{◌≡◌, ◌≢◌, ◌⊎◌, ℕ, ◌+◌, ◌<◌, List, [], ◌∷◌, Some}
use Rattle.std.specs.List.{AllZip}
use Rattle.csv.specs.Records.{field_at}
use Rattle.program_parts.specs.Decimals.{IsNumber}
use Rattle.program_parts.specs.Records.{Record, names_in, width_in}
use Rattle.program_parts.specs.declared.records.Format.{Format}

-- this name, and no other, is the field at this place
pub record IsOnlyName (names : Record) (name : List ℕ) (place : ℕ) : Type 0 where
  pub here : field_at names place ≡ Some name
  pub nowhere_else : (other : ℕ) → field_at names other ≡ Some name → other ≡ place

-- no field is this name
abbrev pub IsNoName : Record → List ℕ → Type 0
IsNoName names name = (place : ℕ) → field_at names place ≡ Some name → ⊥

-- the column is the field at this place, of so many: its text is the only name, or else no name, and the number, from 1
abbrev pub IsPlace : ℕ → Record → List ℕ → ℕ → Type 0
IsPlace width names column place =
    IsOnlyName names column place ⊎ (IsNoName names column × IsNumber 64 column (place + 1) × place < width)

-- the same in a table of this format in these bytes, if it has a record
abbrev pub IsColumn : Format → List ℕ → List ℕ → ℕ → Type 0
IsColumn format bytes column place =
    width_in format bytes ≢ 0 → IsPlace (width_in format bytes) (names_in format bytes) column place

-- the places of the columns of a key: of the first one where none is named
abbrev pub AreKeyPlaces : (List ℕ → ℕ → Type 0) → List (List ℕ) → List ℕ → Type 0
AreKeyPlaces IsAt [] places = places ≡ 0 ∷ []
AreKeyPlaces IsAt (column ∷ columns) places = AllZip IsAt (column ∷ columns) places
