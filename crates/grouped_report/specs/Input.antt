-- What a record says.
use Rattle.std.specs.Prelude.{ℕ, ℤ, List, [], ◌∷◌, Option, None, Some, map, option_map}
use Rattle.program_parts.specs.Records.{Record, field}
use Rattle.grouped_report.specs.Amounts.{amount_in}
use Rattle.grouped_report.specs.Groups.{Row}
use Rattle.grouped_report.specs.declared.columns.Places.{Places}

-- the amounts that texts are, if each is one
abbrev pub with_amount : Option (Option ℤ) → Option (List (Option ℤ)) → Option (List (Option ℤ))
with_amount None amounts = None
with_amount (Some amount) amounts = option_map (λ others. amount ∷ others) amounts

abbrev pub amounts_in : List (List ℕ) → Option (List (Option ℤ))
amounts_in [] = Some []
amounts_in (text ∷ texts) = with_amount (amount_in text) (amounts_in texts)

-- the row that a record says: the fields at these places are its group, and its amounts
abbrev pub row_in : Places → Record → Option Row
row_in places fields =
    option_map (λ amounts. record { group = map (field fields) places.by.items; amounts = amounts })
    (amounts_in (map (field fields) places.sum.items))
