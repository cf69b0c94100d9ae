-- The range of the elements that are equal to what is sought, as C++ has it in `equal_range`, and what finding it asks.
--     IsRange ord xs equals     the equal ones stand between those that are Less and those that are Greater
--     IsLocalRange less equal xs equals  on any list
--     AsksRange g less equal xs f equals t  the questions, whatever is answered
--     IsRangeAt, IsLocalRangeAt, AsksRangeAt  the same of the elements from one place up to another
use Rattle.std.specs.Prelude.{◌≡◌, ℕ, List, ◌++◌, length, slice_range, Bool, Err}
use Rattle.std.specs.List.{AllByRecursion}
use Rattle.std.specs.Fn.{Mut}
use Rattle.std.specs.Borrow.{Bor}
use Rattle.std.specs.declared.cmp.Ordering.{Ordering}
use Rattle.std.specs.declared.cmp.Ordering.TheVariants.{Less, Equal, Greater}
use Rattle.sgb_search.specs.Searching.{as_ordering}
use Rattle.sgb_search.specs.Search.{IsSearch, IsLocalBoundary}

-- the elements of xs that ord answers Equal, where it answers Less before them and Greater after them
pub record IsRange {T : Type 0} (ord : T → Ordering) (xs equals : List T) : Type 0 where
  pub before : List T
  pub after : List T
  pub whole : xs ≡ before ++ (equals ++ after)
  pub less : AllByRecursion (λ x. ord x ≡ Less) before
  pub equal : AllByRecursion (λ x. ord x ≡ Equal) equals
  pub greater : AllByRecursion (λ x. ord x ≡ Greater) after

-- on any list: the equal ones stand between two places, of which the first parts it locally by one test, and the second what comes from there
-- on by another
pub record IsLocalRange {T : Type 0} (less equal : T → Bool) (xs equals : List T) : Type 0 where
  pub before : List T
  pub after : List T
  pub whole : xs ≡ before ++ (equals ++ after)
  pub starts : IsLocalBoundary (λ x. as_ordering (less x)) xs (length before)
  pub ends : IsLocalBoundary (λ x. as_ordering (equal x)) (equals ++ after) (length equals)

-- the range is what stands from the place start up to the place end
module _ {T : Type 0} (xs : List T) (start end : ℕ) where
  abbrev pub IsRangeAt : (T → Ordering) → Type 0
  IsRangeAt ord = (r : IsRange ord xs (slice_range xs start end)) × (length r.before ≡ start)

  abbrev pub IsLocalRangeAt : (T → Bool) → (T → Bool) → Type 0
  IsLocalRangeAt less equal = (r : IsLocalRange less equal xs (slice_range xs start end)) × (length r.before ≡ start)

module _ {F T K : Type 0} (g : Mut F (Bor T × Unit {0}) K) where
  -- a search that leads from the state f to t, for the place n up to which the answers pass the test
  abbrev pub AsksPartition : (K → Bool) → List T → F → ℕ → F → Type 0
  AsksPartition passes xs f n t = IsSearch g xs (λ k. as_ordering (passes k)) f (Err n) t

  -- the two searches by which the range is found, one after the other: up to where answers pass the one test, and from there on the other
  pub record AsksRange (less equal : K → Bool) (xs : List T) (f : F) (equals : List T) (t : F) : Type 0 where
    pub before : List T
    pub after : List T
    pub whole : xs ≡ before ++ (equals ++ after)
    pub state_between : F
    pub less_search : AsksPartition less xs f (length before) state_between
    pub equal_search : AsksPartition equal (equals ++ after) state_between (length equals) t

  -- the range is what stands from the place start up to the place end
  abbrev pub AsksRangeAt : (K → Bool) → (K → Bool) → List T → F → ℕ → ℕ → F → Type 0
  AsksRangeAt less equal xs f start end t =
      (a : AsksRange less equal xs f (slice_range xs start end) t) × (length a.before ≡ start)
