-- Keys of entries.
use Rattle.std.specs.Prelude.{ℕ, Bool, nat_eq}
use Rattle.std.specs.Ordering.{nat_cmp}
use Rattle.std.specs.declared.cmp.Ordering.{Ordering}

-- the two entries have one key
abbrev pub same_key : ℕ × ℕ → ℕ × ℕ → Bool
same_key a b = nat_eq a.0 b.0

-- the key of an entry
abbrev pub key : ℕ × ℕ → ℕ
key e = e.0

-- how their keys compare
abbrev pub by_key : ℕ × ℕ → ℕ × ℕ → Ordering
by_key a b = nat_cmp a.0 b.0
