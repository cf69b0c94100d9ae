-- Where the elements stand that are Equal, in a list whose answers are Less, then Equal, then Greater.
use Rattle.std.specs.Prelude.{cond, ◌≡◌, ◌↔◌, ◌⊎◌, ℕ, ◌+◌, ◌-◌, ◌<◌, ◌≤◌, false, List, [], ◌∷◌, ◌++◌, length, slice_get, slice_range, drop, Some}
use Rattle.std.proofs.Common.{zero, suc, inl, inr, refl, sym, ap, ◌∙◌, subst, arith}
use Rattle.std.specs.List.{Contains, count_by, filter}
use Rattle.std.specs.Ordering.{ordering_index, is_lt, is_le, is_eq, is_gt}
use Rattle.std.specs.declared.cmp.Ordering.{Ordering}
use Rattle.std.specs.declared.cmp.Ordering.TheVariants.{Less, Equal, Greater}
use Rattle.std.proofs.Math.Seq.{take-append_seam, drop-append_seam}
use Rattle.std.proofs.lemmas.List.{length-drop, length-take-le}
use Rattle.std.proofs.lemmas.List.Sorted.{IsNonDecreasingBy-drop}
use Rattle.std.proofs.lemmas.List.Sums.{sum_by-cons, length-filter}
use Rattle.sgb_search.specs.Search.{IsLessEqualGreater}
use Rattle.sgb_search.specs.Ranges.{IsRangeAt}
use Rattle.sgb_split.proofs.Lists.AllByRecursion.{all_contains}
use Rattle.sgb_split.proofs.Lists.Contained.{contains_tail}
use Rattle.sgb_split.proofs.Lists.Filters.{keeps_none}
use Rattle.sgb_search.proofs.Searches.SearchRuns.{contains_at}
use Rattle.sgb_search.proofs.Searches.Partitions.{range_filters, range_less}

not_less : (o : Ordering) → 1 ≤ ordering_index o → is_lt o ≡ false
not_less Less h = absurd (omega (arith, h))
not_less Equal h = refl
not_less Greater h = refl

not_equal : (o : Ordering) → 2 ≤ ordering_index o → is_eq o ≡ false
not_equal Less h = absurd (omega (arith, h))
not_equal Equal h = absurd (omega (arith, h))
not_equal Greater h = refl

once : (o : Ordering) → cond (is_le o) 1 0 ≡ cond (is_lt o) 1 0 + cond (is_eq o) 1 0
once Less = refl
once Equal = refl
once Greater = refl

-- the part of a list between two others
middle : {T : Type 0} (a b c : List T) → slice_range (a ++ (b ++ c)) (length a) (length a + length b) ≡ b
middle a b c =
    let len : length a + length b - length a ≡ length b = omega arith in
    rw (len, drop-append_seam a (b ++ c)) (take-append_seam b c)

-- an element of two lists stands in the first, or in the second
at_part : {T : Type 0} (xs ys : List T) (i : ℕ) (x : T) → slice_get (xs ++ ys) i ≡ Some x
    → ((i < length xs) × Contains xs x) ⊎ ((k : ℕ) × (i ≡ length xs + k) × (slice_get ys k ≡ Some x))
at_part [] ys i x e = inr (i, omega arith, e)
at_part (z ∷ xs) ys zero x e = inl (omega arith, (0, omega arith, cc e))
at_part (z ∷ xs) ys (suc i) x e = by (at_part xs ys i x e)
  where
    by : ((i < length xs) × Contains xs x) ⊎ ((k : ℕ) × (i ≡ length xs + k) × (slice_get ys k ≡ Some x))
        → ((suc i < length (z ∷ xs)) × Contains (z ∷ xs) x) ⊎ ((k : ℕ) × (suc i ≡ length (z ∷ xs) + k) × (slice_get ys k ≡ Some x))
    by (inl (l, c)) = inl (omega (arith, l), contains_tail z xs x c)
    by (inr (k, l, f)) = inr (k, omega (arith, l), f)

module _ {T : Type 0} (ord : T → Ordering) where
  abbrev less : List T → List T
  less xs = filter (λ x. is_lt (ord x)) xs

  abbrev equal : List T → List T
  equal xs = filter (λ x. is_eq (ord x)) xs

  abbrev greater : List T → List T
  greater xs = filter (λ x. is_gt (ord x)) xs

  -- no element is answered lower than one before it
  later : (x : T) (xs : List T) → IsLessEqualGreater ord (x ∷ xs) → (y : T) → Contains xs y
      → ordering_index (ord x) ≤ ordering_index (ord y)
  later x xs up y (k, l, e) =
      subst (λ z. ordering_index (ord x) ≤ ordering_index (ord z)) e (up 0 (suc k) y (omega arith) (omega (arith, l)))

  pub parted : (xs : List T) → IsLessEqualGreater ord xs → xs ≡ less xs ++ (equal xs ++ greater xs)
  parted [] up = refl
  parted (x ∷ xs) up = by (ord x) refl (parted xs (IsNonDecreasingBy-drop (λ y. ordering_index (ord y)) 1 (x ∷ xs) up))
    where
      by : (o : Ordering) → ord x ≡ o → xs ≡ less xs ++ (equal xs ++ greater xs)
          → x ∷ xs ≡ less (x ∷ xs) ++ (equal (x ∷ xs) ++ greater (x ∷ xs))
      by Less e h = rw e (ap (λ l. x ∷ l) h)
      by Equal e h =
          let none : less xs ≡ [] =
          keeps_none _ xs (λ y c. not_less (ord y) (omega (arith, later x xs up y c, ap ordering_index e))) in
          rw (e, none) (ap (λ l. x ∷ l) (h ∙ ap (λ l. l ++ (equal xs ++ greater xs)) none))
      by Greater e h =
          let none : less xs ≡ [] =
          keeps_none _ xs (λ y c. not_less (ord y) (omega (arith, later x xs up y c, ap ordering_index e))) in
          let neither : equal xs ≡ [] =
          keeps_none _ xs (λ y c. not_equal (ord y) (omega (arith, later x xs up y c, ap ordering_index e))) in
          rw (e, none, neither)
          (ap (λ l. x ∷ l) (h ∙ (λ i. none i ++ (neither i ++ greater xs))))

  -- as many are not Greater as are Less or Equal
  less_or_equal : (xs : List T) → count_by (λ x. is_le (ord x)) xs ≡ length (less xs) + length (equal xs)
  less_or_equal xs = counted xs ∙ (λ i. sym (length-filter (λ x. is_lt (ord x)) xs) i + sym (length-filter (λ x. is_eq (ord x)) xs) i)
    where
      counted : (xs : List T) → count_by (λ x. is_le (ord x)) xs ≡ count_by (λ x. is_lt (ord x)) xs + count_by (λ x. is_eq (ord x)) xs
      counted [] = refl
      counted (x ∷ xs) =
          omega (
            arith,
            sum_by-cons (λ y. cond (is_le (ord y)) 1 0) x xs,
            sum_by-cons (λ y. cond (is_lt (ord y)) 1 0) x xs,
            sum_by-cons (λ y. cond (is_eq (ord y)) 1 0) x xs,
            once (ord x),
            counted xs,
          )

  pub range_at_counts : (xs : List T) → IsLessEqualGreater ord xs
      → slice_range xs (count_by (λ x. is_lt (ord x)) xs) (count_by (λ x. is_le (ord x)) xs) ≡ equal xs
  range_at_counts xs up =
      (λ i. slice_range (parted xs up i) (sym (length-filter (λ x. is_lt (ord x)) xs) i) (less_or_equal xs i))
      ∙ middle (less xs) (equal xs) (greater xs)

  module _ (xs : List T) (start end : ℕ) where
    pub starts_at : IsRangeAt xs start end ord → start ≡ count_by (λ x. is_lt (ord x)) xs
    starts_at r =
        sym r.1 ∙ ap length (sym (range_less ord xs (slice_range xs start end) r.0)) ∙ length-filter (λ x. is_lt (ord x)) xs

    pub ends_at : start ≤ end → end ≤ length xs → IsRangeAt xs start end ord → end ≡ count_by (λ x. is_le (ord x)) xs
    ends_at order within r =
        omega (
          arith,
          order,
          length_part,
          starts_at r ∙ sym (length-filter (λ x. is_lt (ord x)) xs),
          ap length (range_filters ord xs (slice_range xs start end) r.0),
          less_or_equal xs,
        )
      where
        length_part : length (slice_range xs start end) ≡ end - start
        length_part = length-take-le (end - start) (drop start xs) (omega (arith, within, length-drop start xs))

    pub filters : IsRangeAt xs start end ord → slice_range xs start end ≡ equal xs
    filters r = range_filters ord xs (slice_range xs start end) r.0

    -- an element is equal exactly if it stands in the range
    pub exactly : start ≤ end → end ≤ length xs → IsRangeAt xs start end ord → (i : ℕ) (x : T) → slice_get xs i ≡ Some x
        → ((start ≤ i) × (i < end)) ↔ (ord x ≡ Equal)
    exactly order within r i x at = by (at_part r.0.before (equals ++ r.0.after) i x (rw r.0.whole at at))
      where
        equals : List T
        equals = slice_range xs start end

        len : length equals ≡ end - start
        len = length-take-le (end - start) (drop start xs) (omega (arith, within, length-drop start xs))

        in_rest : (k : ℕ) → i ≡ start + k → ((k < length equals) × Contains equals x)
            ⊎ ((j : ℕ) × (k ≡ length equals + j) × (slice_get r.0.after j ≡ Some x)) → ((start ≤ i) × (i < end)) ↔ (ord x ≡ Equal)
        in_rest k e (inl (l, c)) =
            (λ p. all_contains _ equals x r.0.equal c, λ q. (omega (arith, e), omega (arith, e, l, len, order)))
        in_rest k e (inr (j, f, g)) =
            let above : ord x ≡ Greater = all_contains _ r.0.after x r.0.greater (contains_at r.0.after j x g) in
            (λ p. absurd (omega (arith, p.1, e, f, len, order)), λ q. absurd (cc (sym above ∙ q)))

        by : ((i < length r.0.before) × Contains r.0.before x)
            ⊎ ((k : ℕ) × (i ≡ length r.0.before + k) × (slice_get (equals ++ r.0.after) k ≡ Some x))
            → ((start ≤ i) × (i < end)) ↔ (ord x ≡ Equal)
        by (inl (l, c)) =
            let below : ord x ≡ Less = all_contains _ r.0.before x r.0.less c in
            (λ p. absurd (omega (arith, p.0, l, r.1)), λ q. absurd (cc (sym below ∙ q)))
        by (inr (k, e, f)) = in_rest k (omega (arith, e, r.1)) (at_part equals r.0.after k x f)
