-- Words of a text of bytes.
use Rattle.std.specs.Prelude.{ℕ, Bool, ◌&&◌, List, slice_index}
use Rattle.std.specs.Char.{is_ascii_alphabetic}

-- the two are letters, and so of one word
abbrev pub are_letters : ℕ → ℕ → Bool
are_letters a b = is_ascii_alphabetic a && is_ascii_alphabetic b

-- the group is one of letters, by its first byte
abbrev pub is_word : List ℕ → Bool
is_word group = is_ascii_alphabetic (slice_index group 0)
