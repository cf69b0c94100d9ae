-- What stands beside a key in another column.
use Rattle.std.specs.Prelude.{ℕ, ◌%◌, ◌^◌, List, map, nat_eq, sum}
use Rattle.std.specs.List.{filter, zip}

-- the sum of the values in the rows of this key, modulo 2^64
abbrev pub sum_beside : ℕ → List ℕ → List ℕ → ℕ
sum_beside k keys values = sum (map (λ row. row.1) (filter (λ row. nat_eq row.0 k) (zip keys values))) % 2 ^ 64
