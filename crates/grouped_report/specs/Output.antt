-- The rows of a report.
use Rattle.std.specs.Prelude.{ℕ, List, [], ◌∷◌, ◌++◌, Bool, codes, decimal, if◌then◌else◌, map, nat_eq}
use Rattle.std.specs.List.{list_any}
use Rattle.program_parts.specs.Records.{Record, field}
use Rattle.grouped_report.specs.Amounts.{sum_text}
use Rattle.grouped_report.specs.Groups.{Summary}
use Rattle.grouped_report.specs.declared.columns.Places.{Places}

-- the name of a sum: that of its column, with `sum_` before it if the column is one of the groups' too
abbrev pub sum_name : Record → List ℕ → ℕ → List ℕ
sum_name names by place = (if list_any (λ other. nat_eq other place) by then codes "sum_" else []) ++ field names place

-- the names of the columns of a report, if the table has names
abbrev pub names_rows : Bool → Places → Record → List Record
names_rows counts places [] = []
names_rows counts places (name ∷ names) =
    (map (field (name ∷ names)) places.by.items ++ (if counts then codes "count" ∷ [] else [])
    ++ map (sum_name (name ∷ names) places.by.items) places.sum.items)
    ∷ []

-- the row of a group: its fields, the number of its rows, if that is asked for, and the sums
abbrev pub summary_row : Bool → Summary → Record
summary_row counts summary =
    summary.group ++ (if counts then decimal summary.count ∷ [] else []) ++ map sum_text summary.sums
