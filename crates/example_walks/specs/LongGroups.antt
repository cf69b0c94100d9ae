-- Which groups are long, and what is made of a group where long ones are cleared.
use Rattle.std.specs.Prelude.{ℕ, Bool, cond, List, length, replicate, nat_lt}

-- a group of more than max_len elements
abbrev pub is_long : ℕ → List ℕ → Bool
is_long max_len group = nat_lt max_len (length group)

-- the group, cleared if it is long
abbrev pub cleared_if_long : ℕ → List ℕ → List ℕ
cleared_if_long max_len group = cond (is_long max_len group) (replicate (length group) 0) group
