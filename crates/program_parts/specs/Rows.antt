-- Rows of a table, as they stand in memory.
--     row_at layout fields     the row that a record is
--     by_key a b               how the key of a row stands to that of another
--     AreSorted rows sorted    these are the rows, sorted by their keys
use Rattle.std.specs.Prelude.{◌≡◌, ℕ, ◌+◌, ◌*◌, ◌<◌, zero, suc, List, [], ◌∷◌, ◌++◌, take, drop, length, get_or, map, flat_map, replicate}
use Rattle.std.specs.Cmp.Lexicographic.{slice_cmp}
use Rattle.std.specs.List.Sorted.{IsPermutation, IsSorted, IsStable}
use Rattle.std.specs.Ordering.{nat_cmp}
use Rattle.std.specs.declared.cmp.Ordering.{Ordering}
use Rattle.csv.specs.Records.{fields_of}
use Rattle.program_parts.specs.Records.{Record, field}
use Rattle.program_parts.specs.declared.layout.Layout.{Layout}
use Rattle.program_parts.specs.declared.block.Block.{Block}

-- a row: the fields of its key, and others
pub record Row : Type 0 where
  pub key : Record
  pub rest : Record

-- the row that a record is, of the fields at these places
abbrev pub row_at : Layout → Record → Row
row_at layout fields = record { key = map (field fields) layout.key.items; rest = map (field fields) layout.rest.items }

-- a row with no key, and so many empty fields
abbrev pub blank : ℕ → Row
blank width = record { key = []; rest = replicate width [] }

-- how keys stand to one another: by their fields, one after another, byte by byte
abbrev pub key_cmp : Record → Record → Ordering
key_cmp = slice_cmp (slice_cmp nat_cmp)

abbrev pub by_key : Row → Row → Ordering
by_key a b = key_cmp a.key b.key

-- these are the rows, sorted by their keys; rows of one key keep their order
pub record AreSorted (rows sorted : List Row) : Type 0 where
  pub permutes : IsPermutation rows sorted
  pub ascend : IsSorted by_key sorted
  pub stable : IsStable by_key rows sorted

-- the row whose key has so many fields and whose rest has so many, from a place on in a list of fields
abbrev pub cut_row : ℕ → ℕ → ℕ → Record → Row
cut_row key rest at fields = record { key = take key (drop at fields); rest = take rest (drop (at + key) fields) }

-- the fields of a row, those of the key first
abbrev pub fields_in : Row → Record
fields_in row = row.key ++ row.rest

-- n bytes of a text from a place on, as the digits of a number behind others; where the text has fewer, zeros
unfoldable pub front : ℕ → ℕ → ℕ → List ℕ → ℕ
front zero before at text = before
front (suc n) before at text = front n (before * 256 + get_or text at 0) (suc at) text

-- the number is the front of the first field of a key, which has bytes
abbrev pub IsFront : ℕ → Record → Type 0
IsFront n [] = n ≡ 0
IsFront n (text ∷ others) = (n ≡ front 8 0 0 text) × ((i : ℕ) → get_or text i 0 < 256)

-- these are the rows of a block, one behind another
pub record Holds (layout : Layout) (records : List Record) (block : Block) : Type 0 where
  pub key : block.key ≡ length layout.key.items
  pub rest : block.rest ≡ length layout.rest.items
  pub fields : fields_of block.fields ≡ flat_map (λ fields. fields_in (row_at layout fields)) records
