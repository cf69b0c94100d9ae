-- Searches whose answers are two sides: the place that they give parts a list that is partitioned.
use Rattle.std.specs.Prelude.{cond, ◌≡◌, ℕ, ◌≤◌, Bool, true, false, List, [], ◌++◌, length, Err}
use Rattle.std.proofs.Common.{refl, sym, ap, ◌∙◌, subst, arith}
use Rattle.std.specs.List.{AllByRecursion, count_by, filter, slice_index_or}
use Rattle.std.specs.List.Sorted.{IsPartitionedBy, IsPartitionPoint}
use Rattle.std.specs.Ordering.{ordering_index, is_lt, is_le, is_eq}
use Rattle.std.specs.declared.cmp.Ordering.{Ordering}
use Rattle.std.specs.declared.cmp.Ordering.TheVariants.{Less, Equal, Greater}
use Rattle.std.proofs.Math.Seq.{take-append_seam, drop-append_seam}
use Rattle.std.proofs.lemmas.List.{append-nil}
use Rattle.std.proofs.lemmas.List.Elements.{Contains-get_or, filter-append}
use Rattle.std.proofs.lemmas.List.Sorted.{IsNonDecreasingBy-drop}
use Rattle.sgb_search.specs.Searching.{as_ordering}
use Rattle.sgb_search.specs.Search.{IsLocalBoundary, IsLessEqualGreater}
use Rattle.sgb_search.specs.Ranges.{IsRange, IsLocalRange, IsRangeAt, IsLocalRangeAt}
use Rattle.sgb_split.proofs.Lists.Filters.{keeps_all, keeps_none}
use Rattle.sgb_split.proofs.Lists.AllByRecursion.{all_contains, all_each, all_when, all_of_rest}
use Rattle.sgb_search.proofs.Searches.PartitionPoint.{taken, dropped, less_count}
use Rattle.sgb_search.proofs.Searches.Boundaries.{side_before, side_after}
use Rattle.sgb_search.proofs.Searches.SearchRuns.{region}

-- where the elements that pass come first, a local boundary parts them from the others
module _ {T : Type 0} (p : T → Bool) (xs : List T) where
  rises : (a b : Bool) → (b ≡ true → a ≡ true) → ordering_index (as_ordering a) ≤ ordering_index (as_ordering b)
  rises true b h = omega arith
  rises false true h = absurd (cc (h refl))
  rises false false h = omega arith

  pub partitioned_rises : IsPartitionedBy p xs → IsLessEqualGreater (λ x. as_ordering (p x)) xs
  partitioned_rises h i j d l k = rises (p (slice_index_or xs i d)) (p (slice_index_or xs j d)) (h i j d l k)

  pub parts_at : (i : ℕ) → IsLocalBoundary (λ x. as_ordering (p x)) xs i → IsPartitionedBy p xs
      → IsPartitionPoint (λ x. p x ≡ true) (λ x. p x ≡ false) xs i
  parts_at i b h =
      let at = region (λ x. as_ordering (p x)) xs (Err i) b (partitioned_rises h) in
      (λ k d l m. side_before _ (at.0 k d l m), λ k d l m. side_after _ (at.1 k d l m))

  side_is : (b : Bool) → is_lt (as_ordering b) ≡ b
  side_is true = refl
  side_is false = refl

  -- and it is the number of those that pass
  pub passing_count : (i : ℕ) → i ≤ length xs → IsLocalBoundary (λ x. as_ordering (p x)) xs i → IsPartitionedBy p xs → i ≡ count_by p xs
  passing_count i l b h =
      less_count (λ x. as_ordering (p x)) xs i l (region (λ x. as_ordering (p x)) xs (Err i) b (partitioned_rises h))
      ∙ (λ j. count_by (λ x. side_is (p x) j) xs)

pub parts_list : {T : Type 0} (p : T → Bool) (first second : List T)
    → IsLocalBoundary (λ x. as_ordering (p x)) (first ++ second) (length first) → IsPartitionedBy p (first ++ second) → AllByRecursion (λ x. p x ≡ true) first × AllByRecursion (λ x. p x ≡ false) second
parts_list p first second b h =
    let at = parts_at p (first ++ second) (length first) b h in (
      subst (AllByRecursion (λ x. p x ≡ true)) (take-append_seam first second) (taken _ (first ++ second) (length first) at.0),
      subst (AllByRecursion (λ x. p x ≡ false)) (drop-append_seam first second) (dropped _ (first ++ second) (length first) at.1),
    )

-- where the answers are Less, then Equal, then Greater
module _ {T : Type 0} (ord : T → Ordering) where
  less_below : (a b : Ordering) → ordering_index a ≤ ordering_index b → is_lt b ≡ true → is_lt a ≡ true
  less_below Less b h e = refl
  less_below Equal Less h e = absurd (omega arith)
  less_below Equal Equal h e = absurd (cc e)
  less_below Equal Greater h e = absurd (cc e)
  less_below Greater Less h e = absurd (omega arith)
  less_below Greater Equal h e = absurd (omega arith)
  less_below Greater Greater h e = absurd (cc e)

  equal_below : (a b : Ordering) → ordering_index a ≤ ordering_index b → is_lt a ≡ false → is_eq b ≡ true → is_eq a ≡ true
  equal_below Less b h n e = absurd (cc n)
  equal_below Equal b h n e = refl
  equal_below Greater Less h n e = absurd (omega arith)
  equal_below Greater Equal h n e = absurd (omega arith)
  equal_below Greater Greater h n e = absurd (cc e)

  is_less : (o : Ordering) → is_lt o ≡ true → o ≡ Less
  is_less Less e = refl
  is_less Equal e = absurd (cc e)
  is_less Greater e = absurd (cc e)

  is_equal : (o : Ordering) → is_eq o ≡ true → o ≡ Equal
  is_equal Less e = absurd (cc e)
  is_equal Equal e = refl
  is_equal Greater e = absurd (cc e)

  is_greater : (o : Ordering) → is_lt o ≡ false → is_eq o ≡ false → o ≡ Greater
  is_greater Less e f = absurd (cc e)
  is_greater Equal e f = absurd (cc f)
  is_greater Greater e f = refl

  pub less_first : (xs : List T) → IsLessEqualGreater ord xs → IsPartitionedBy (λ x. is_lt (ord x)) xs
  less_first xs up i j d l k e = less_below (ord (slice_index_or xs i d)) (ord (slice_index_or xs j d)) (up i j d l k) e

  le_below : (a b : Ordering) → ordering_index a ≤ ordering_index b → is_le b ≡ true → is_le a ≡ true
  le_below Less b h e = refl
  le_below Equal b h e = refl
  le_below Greater Less h e = absurd (omega arith)
  le_below Greater Equal h e = absurd (omega arith)
  le_below Greater Greater h e = absurd (cc e)

  pub not_greater_first : (xs : List T) → IsLessEqualGreater ord xs → IsPartitionedBy (λ x. is_le (ord x)) xs
  not_greater_first xs up i j d l k e = le_below (ord (slice_index_or xs i d)) (ord (slice_index_or xs j d)) (up i j d l k) e

  equal_first : (xs : List T) → IsLessEqualGreater ord xs → AllByRecursion (λ x. is_lt (ord x) ≡ false) xs
      → IsPartitionedBy (λ x. is_eq (ord x)) xs
  equal_first xs up all i j d l k e =
      equal_below (ord (slice_index_or xs i d)) (ord (slice_index_or xs j d)) (up i j d l k)
      (all_contains _ xs (slice_index_or xs i d) all (Contains-get_or xs i d (omega (arith, l, k)))) e

  -- a range that is parted locally is that of the elements that are Equal
  pub range_is : (xs equals : List T) → IsLessEqualGreater ord xs
      → IsLocalRange (λ x. is_lt (ord x)) (λ x. is_eq (ord x)) xs equals → IsRange ord xs equals
  range_is xs equals up r = record {
    before = r.before;
    after = r.after;
    whole = r.whole;
    less = all_each _ _ (λ x e. is_less (ord x) e) r.before one.0;
    equal = all_each _ _ (λ x e. is_equal (ord x) e) equals two.0;
    greater = all_when _ r.after (λ x c. is_greater (ord x)
        (all_contains _ r.after x (all_of_rest _ equals r.after one.1) c) (all_contains _ r.after x two.1 c));
  }
    where
      rising : IsLessEqualGreater ord (r.before ++ (equals ++ r.after))
      rising = subst (IsLessEqualGreater ord) r.whole up

      one : AllByRecursion (λ x. is_lt (ord x) ≡ true) r.before × AllByRecursion (λ x. is_lt (ord x) ≡ false) (equals ++ r.after)
      one = parts_list (λ x. is_lt (ord x)) r.before (equals ++ r.after)
          (subst (λ l. IsLocalBoundary (λ x. as_ordering (is_lt (ord x))) l (length r.before)) r.whole r.starts)
          (less_first (r.before ++ (equals ++ r.after)) rising)

      later : IsLessEqualGreater ord (equals ++ r.after)
      later = subst (IsLessEqualGreater ord) (drop-append_seam r.before (equals ++ r.after))
          (IsNonDecreasingBy-drop (λ x. ordering_index (ord x)) (length r.before) (r.before ++ (equals ++ r.after)) rising)

      two : AllByRecursion (λ x. is_eq (ord x) ≡ true) equals × AllByRecursion (λ x. is_eq (ord x) ≡ false) r.after
      two = parts_list (λ x. is_eq (ord x)) equals r.after r.ends (equal_first (equals ++ r.after) later one.1)

  -- and it begins behind as many as are Less
  pub range_at : (xs : List T) (start end : ℕ) → IsLessEqualGreater ord xs
      → IsLocalRangeAt xs start end (λ x. is_lt (ord x)) (λ x. is_eq (ord x)) → IsRangeAt xs start end ord
  unfolding range_is
  range_at xs start end up r = (range_is xs _ up r.0, r.1)

-- what a filter keeps of a range: all of a part that passes, and none of another
module _ {T : Type 0} (ord : T → Ordering) (xs equals : List T) (r : IsRange ord xs equals) (p : Ordering → Bool) where
  kept : (o : Ordering) (ys : List T) → AllByRecursion (λ x. ord x ≡ o) ys → filter (λ x. p (ord x)) ys ≡ cond (p o) ys []
  kept o ys h = by (p o) refl
    where
      by : (b : Bool) → p o ≡ b → filter (λ x. p (ord x)) ys ≡ cond b ys []
      by true e = keeps_all (λ x. p (ord x)) ys (λ x c. ap p (all_contains _ ys x h c) ∙ e)
      by false e = keeps_none (λ x. p (ord x)) ys (λ x c. ap p (all_contains _ ys x h c) ∙ e)

  filtered : filter (λ x. p (ord x)) xs ≡ cond (p Less) r.before [] ++ (cond (p Equal) equals [] ++ cond (p Greater) r.after [])
  filtered =
      ap (filter (λ x. p (ord x))) r.whole ∙ filter-append (λ x. p (ord x)) r.before (equals ++ r.after)
      ∙ ap (λ l. filter (λ x. p (ord x)) r.before ++ l) (filter-append (λ x. p (ord x)) equals r.after)
      ∙ (λ i. kept Less r.before r.less i ++ (kept Equal equals r.equal i ++ kept Greater r.after r.greater i))

module _ {T : Type 0} (ord : T → Ordering) (xs equals : List T) (r : IsRange ord xs equals) where
  pub range_filters : equals ≡ filter (λ x. is_eq (ord x)) xs
  range_filters = sym (filtered ord xs equals r is_eq ∙ append-nil equals)

  pub range_less : filter (λ x. is_lt (ord x)) xs ≡ r.before
  range_less = filtered ord xs equals r is_lt ∙ append-nil r.before
