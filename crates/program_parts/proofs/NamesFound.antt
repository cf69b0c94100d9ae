-- Where a name was found among the first fields of a record.
use Rattle.std.proofs.Common.{◌≡◌, ℕ, ◌<◌, List, [], ◌∷◌, length, Option, None, Some, IfSome, suc, zero, arith}
use Rattle.csv.specs.Records.{field_at}
use Rattle.program_parts.specs.Columns.{IsNoName, IsOnlyName}
use Rattle.program_parts.specs.Records.{Record}

-- among so many fields it stands nowhere, or once, at this place
abbrev pub Found : Record → List ℕ → ℕ → Option ℕ → Type 0
Found names name i None = (k : ℕ) → k < i → field_at names k ≡ Some name → ⊥
Found names name i (Some p) = (p < i) × (field_at names p ≡ Some name) × ((k : ℕ) → k < i → field_at names k ≡ Some name → k ≡ p)

-- a place that has a field is one of so many
within : (names : Record) (name : List ℕ) (k : ℕ) → field_at names k ≡ Some name → k < length names
unfolding field_at
within [] name k is = cc
within (x ∷ xs) name zero is = omega arith
within (x ∷ xs) name (suc k) is = let later = within xs name k is in omega (arith, later)

-- and among all fields
found_once : (names : Record) (name : List ℕ) (i p : ℕ) → length names ≡ i → Found names name i (Some p) → IsOnlyName names name p
found_once names name i p len found = record {
  here = found.1;
  nowhere_else = λ k is. let l = within names name k is in found.2 k (omega (arith, l, len)) is;
}

-- what was found of a name among all fields
pub found_one : (names : Record) (name : List ℕ) (i : ℕ) (found : Option ℕ) → length names ≡ i → Found names name i found
    → IfSome found (λ place. IsOnlyName names name place)
found_one names name i None len is = tt
found_one names name i (Some p) len is = found_once names name i p len is

pub found_none : (names : Record) (name : List ℕ) (i : ℕ) (found : Option ℕ) → length names ≡ i → Found names name i found → found ≡ None
    → IsNoName names name
found_none names name i None len is none place at = let l = within names name place at in is place (omega (arith, l, len)) at
found_none names name i (Some p) len is none place at = cc
