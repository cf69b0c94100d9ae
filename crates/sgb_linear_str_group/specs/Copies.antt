-- A text whose outermost characters are copies of one of ASCII.
use Rattle.std.specs.Prelude.{◌≡◌, ℕ, ◌-◌, ◌<◌, List, length, replicate, slice_index}
use Rattle.sgb_split.specs.Split.{put_at}
use Rattle.sgb_split.specs.declared.end.End.{End}
use Rattle.sgb_split.specs.declared.end.End.TheVariants.{Front, Back}

-- the first byte of a text, and the last one
abbrev pub outermost_byte : End → List ℕ → ℕ
outermost_byte Front text = slice_index text 0
outermost_byte Back text = slice_index text (length text - 1)

-- the text is cut between its copies of the byte at the end, which are all of one group, and the rest, where the next byte is another
pub record IsCutAtCopies (e : End) (text group rest : List ℕ) : Type 0 where
  pub cut : text ≡ put_at e group rest
  pub nonempty : 0 < length group
  pub copies : group ≡ replicate (length group) (outermost_byte e text)
  pub other : 0 < length rest → outermost_byte e rest ≡ outermost_byte e text → ⊥
