-- Rows, their groups, and what is said of a group.
use Rattle.std.specs.Prelude.{◌≡◌, ℕ, ◌+◌, ℤ, ◌+ℤ◌, nat_eq, Bool, List, [], ◌∷◌, length, Option, None, Some, map, option_map}
use Rattle.std.specs.Cmp.Lexicographic.{pointwise, slice_cmp}
use Rattle.std.specs.List.{fold}
use Rattle.std.specs.List.Sorted.{IsPermutation, IsSortedByKey}
use Rattle.std.specs.Ordering.{nat_cmp}
use Rattle.std.specs.declared.cmp.Ordering.{Ordering}
use Rattle.slice_group_by.specs.Split.{split}

-- a row: the fields that its group shares, and its amounts, where a field may have none
pub record Row : Type 0 where
  pub group : List (List ℕ)
  pub amounts : List (Option ℤ)

-- two rows are of one group: these fields are the same
abbrev pub same_fields : List (List ℕ) → List (List ℕ) → Bool
same_fields a b = pointwise (pointwise nat_eq) a b

abbrev pub same_group : Row → Row → Bool
same_group a b = same_fields a.group b.group

-- how groups stand to one another: by their fields, one after another, byte by byte
abbrev pub group_cmp : List (List ℕ) → List (List ℕ) → Ordering
group_cmp = slice_cmp (slice_cmp nat_cmp)

abbrev pub group_of : Row → List (List ℕ)
group_of row = row.group

-- these are the rows, sorted by their groups
pub record AreSorted (rows sorted : List Row) : Type 0 where
  pub permutation : IsPermutation rows sorted
  pub ascend : IsSortedByKey group_of group_cmp sorted

-- the sum of two amounts, of those that there are
abbrev pub plus : Option ℤ → Option ℤ → Option ℤ
plus None b = b
plus (Some x) None = Some x
plus (Some x) (Some y) = Some (x +ℤ y)

-- amounts are added column for column
abbrev pub add : List (Option ℤ) → List (Option ℤ) → List (Option ℤ)
add [] ys = ys
add (x ∷ xs) [] = x ∷ xs
add (x ∷ xs) (y ∷ ys) = plus x y ∷ add xs ys

-- what is said of a group: the fields that its rows share, how many rows it has, and the sums of their amounts
pub record Summary : Type 0 where
  pub group : List (List ℕ)
  pub count : ℕ
  pub sums : List (Option ℤ)

-- a summary, with rows more
abbrev pub with_rows : Summary → List Row → Summary
with_rows summary rows = record {
  group = summary.group;
  count = summary.count + length rows;
  sums = fold (λ sums row. add sums row.amounts) summary.sums rows;
}

abbrev pub summary : List Row → Summary
summary [] = record { group = []; count = 0; sums = [] }
summary (row ∷ rows) = record {
  group = row.group;
  count = length (row ∷ rows);
  sums = fold (λ sums other. add sums other.amounts) row.amounts rows;
}

-- that of a group, if it has a row; and with rows more
abbrev pub summary_if : List Row → Option Summary
summary_if [] = None
summary_if (row ∷ rows) = Some (summary (row ∷ rows))

abbrev pub longer : Option Summary → List Row → Option Summary
longer current rows = option_map (λ summary. with_rows summary rows) current

-- The summaries are those of the groups of the rows, in ascending order of the groups.
pub record Summarized (rows : List Row) (sums : List Summary) : Type 0 where
  pub sorted : List Row
  pub are_sorted : AreSorted rows sorted
  pub are_summaries : sums ≡ map summary (split same_group sorted)
