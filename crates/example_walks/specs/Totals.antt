-- Totals of rows, each a key and an amount.
use Rattle.std.specs.Prelude.{ℕ, ◌+◌, ◌-◌, ◌^◌, Bool, List, map, min, nat_eq, slice_index_or, sum_by}
use Rattle.std.specs.List.{dedup, filter}

abbrev pub key : ℕ × ℕ → ℕ
key row = row.0

abbrev pub amount : ℕ × ℕ → ℕ
amount row = row.1

abbrev pub same_key : ℕ × ℕ → ℕ × ℕ → Bool
same_key a b = nat_eq (key a) (key b)

-- the key of the first row and the sum of the amounts, at most the greatest number of 64 bits
abbrev pub total_of : List (ℕ × ℕ) → ℕ × ℕ
total_of rows = (key (slice_index_or rows 0 (0, 0)), min (sum_by amount rows) (2 ^ 64 - 1))

-- a total with rows more
abbrev pub larger_total : ℕ × ℕ → List (ℕ × ℕ) → ℕ × ℕ
larger_total total rows = (total.0, min (total.1 + sum_by amount rows) (2 ^ 64 - 1))

-- each key of the rows, once and in order, with the sum of all amounts that have it
abbrev pub totals : List (ℕ × ℕ) → List (ℕ × ℕ)
totals rows =
    map (λ k. (k, min (sum_by amount (filter (λ row. nat_eq (key row) k) rows)) (2 ^ 64 - 1))) (dedup nat_eq (map key rows))
