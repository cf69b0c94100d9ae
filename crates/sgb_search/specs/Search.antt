-- What a search of a slice by a comparator gives, as the documentation of Rust's `binary_search_by` says of its own.
--     IsLocalAnswer ord xs r     on any list, where ord x is what the comparator answers of x
--     FindsIn ord xs r           on a list whose answers are Less, then Equal, then Greater
--     IsSearch g xs reads f r t  the questions, whatever is answered
use Rattle.std.specs.Prelude.{◌≡◌, ℕ, List, length, cond, ◌≢◌, Result, Ok, Err, Some, count_by}
use Rattle.std.specs.List.{AllByRecursion, slice_get}
use Rattle.std.specs.List.Sorted.{IsNonDecreasingBy, IsPartitionPoint}
use Rattle.std.specs.Fn.{Mut, TakesAt, CalledAt}
use Rattle.std.specs.Borrow.{Bor}
use Rattle.std.specs.Ordering.{ordering_index, is_lt, is_gt}
use Rattle.std.specs.declared.cmp.Ordering.{Ordering}
use Rattle.std.specs.declared.cmp.Ordering.TheVariants.{Less, Equal, Greater}
use Rattle.sgb_search.specs.Searching.{exponential, IsLowEnd, IsHighEnd, Searches}
use Rattle.sgb_split.specs.Split.{neighbours}

module _ {T : Type 0} (ord : T → Ordering) (xs : List T) where
  -- the element at place i is answered o
  abbrev pub AnswersAt : ℕ → Ordering → Type 0
  AnswersAt i o = (x : T) × (slice_get xs i ≡ Some x) × (ord x ≡ o)

  -- nothing stands before i, or Less does; and nothing from i on, or Greater does there
  abbrev pub IsLocalBoundary : ℕ → Type 0
  IsLocalBoundary i = IsLowEnd AnswersAt 0 i × IsHighEnd AnswersAt (length xs) i

  -- a place that is answered Equal, or a local boundary
  abbrev pub IsLocalAnswer : Result ℕ ℕ → Type 0
  IsLocalAnswer (Ok i) = AnswersAt i Equal
  IsLocalAnswer (Err i) = IsLocalBoundary i

  -- the answers along the list are Less, then Equal, then Greater, each perhaps never
  abbrev pub IsLessEqualGreater : Type 0
  IsLessEqualGreater = IsNonDecreasingBy (λ x. ordering_index (ord x)) xs

  -- none is Equal: those before i are Less and those from i on are Greater, and so i is the number of those that are Less
  pub record IsGap (i : ℕ) : Type 0 where
    pub none : (j : ℕ) → AnswersAt j Equal → ⊥
    pub partition : IsPartitionPoint (λ x. ord x ≡ Less) (λ x. ord x ≡ Greater) xs i
    pub place : i ≡ count_by (λ x. is_lt (ord x)) xs

  -- a place that is answered Equal, or the one place where such an element could stand, if there is none
  abbrev pub FindsIn : Result ℕ ℕ → Type 0
  FindsIn (Ok i) = AnswersAt i Equal
  FindsIn (Err i) = IsGap i

-- no neighbouring pair of the list descends
abbrev pub NeverDescends : {T : Type 0} → (T → T → Ordering) → List T → Type 0
NeverDescends cmp xs = AllByRecursion (λ q. cmp q.0 q.1 ≢ Greater) (neighbours xs)

-- each element of the list is below the next: for an order, what `IsStrictlySortedBy` of the standard library says
abbrev pub AlwaysAscends : {T : Type 0} → (T → T → Ordering) → List T → Type 0
AlwaysAscends cmp xs = AllByRecursion (λ q. cmp q.0 q.1 ≡ Less) (neighbours xs)

-- how a key stands to those from low up to high
abbrev pub between : {K : Type 0} → (K → K → Ordering) → K → K → K → Ordering
between cmp low high k = cond (is_lt (cmp k low)) Less (cond (is_gt (cmp k high)) Greater Equal)

-- a search of the elements by a comparator or a key function, by its answers read as orderings: it leads from the state f to t and gives r
abbrev pub IsSearch : {F T K : Type 0} → Mut F (Bor T × Unit {0}) K → List T → (K → Ordering) → F → Result ℕ ℕ → F → Type 0
IsSearch g xs reads f r t = Searches (TakesAt g) (CalledAt g) xs reads exponential 0 f r t
