-- The longest group.
use Rattle.std.specs.Prelude.{ℕ, List, length, max}

-- the greater of a length and that of a group more
abbrev pub longer : {T : Type 0} → ℕ → List T → ℕ
longer most group = max most (length group)
