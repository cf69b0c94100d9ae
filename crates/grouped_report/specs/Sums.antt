-- Summaries of rows in any order.
use Rattle.std.specs.Prelude.{◌≡◌, ◌≢◌, ℕ, ◌+◌, List, [], ◌∷◌, ◌++◌, length}
use Rattle.std.specs.List.{AllByRecursion, AllZip}
use Rattle.std.specs.List.Sorted.{IsPermutation, IsStrictlySortedBy}
use Rattle.std.specs.declared.cmp.Ordering.{Ordering}
use Rattle.slice_group_by.specs.Split.{concat}
use Rattle.slice_merge_join.specs.Merge.{Part, lefts, rights}
use Rattle.grouped_report.specs.Groups.{Row, Summary, add, group_cmp, summary}

-- how the groups of two summaries stand to one another
abbrev pub sum_cmp : Summary → Summary → Ordering
sum_cmp a b = group_cmp a.group b.group

-- there is a row, all of the rows are of this group, and this is their summary
pub record IsOf (rows : List Row) (sum : Summary) : Type 0 where
  pub nonempty : rows ≢ []
  pub alike : AllByRecursion (λ row. row.group ≡ sum.group) rows
  pub is : sum ≡ summary rows

-- The summaries, in ascending order of their groups, are those of the rows that came, but for some that wait.
pub record IsSummed (rows : List Row) (sums : List Summary) (waiting : List Row) : Type 0 where
  pub groups : List (List Row)
  pub are_of : AllZip IsOf groups sums
  pub ascend : IsStrictlySortedBy sum_cmp sums
  pub permutation : IsPermutation rows (concat groups ++ waiting)

-- the summary of the rows of two summaries of one group
abbrev pub combine : Summary → Summary → Summary
combine a b = record { group = a.group; count = a.count + b.count; sums = add a.sums b.sums }

-- the summaries of one side, or one for both if each has one of the same group
abbrev pub together : List Summary → List Summary → List Summary
together [] bs = bs
together (a ∷ as') [] = a ∷ as'
together (a ∷ as') (b ∷ bs) = combine a b ∷ []

-- where both sides have summaries, each has one, of the same group
abbrev pub IsOneOfEach : List Summary → List Summary → Type 0
IsOneOfEach [] bs = Unit {0}
IsOneOfEach (a ∷ as') [] = Unit {0}
IsOneOfEach (a ∷ as') (b ∷ bs) = (as' ≡ []) × (bs ≡ []) × (a.group ≡ b.group)

-- how many left summaries a part has, and how many right ones
abbrev pub counts_of : Part Summary Summary → ℕ × ℕ
counts_of p = (length (lefts p), length (rights p))
