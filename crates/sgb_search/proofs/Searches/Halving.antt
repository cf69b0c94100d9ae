-- The steps of halving.
use Rattle.std.specs.Prelude.{◌≡◌, ◌≢◌, ℕ, ◌+◌, ◌-◌, ◌/◌, ◌<◌, ◌≤◌, List, [], ◌∷◌, ◌++◌, length, ◌⊎◌, true, false, refl, Ok, Err}
use Rattle.std.proofs.Common.{sym, subst, arith, inl, inr, length-append, true≢false, is_lt, is_gt, is_eq}
use Rattle.std.specs.List.{AllByRecursion}
use Rattle.std.proofs.lemmas.List.Elements.{Contains-push}
use Rattle.std.specs.declared.cmp.Ordering.{Ordering}
use Rattle.std.specs.declared.cmp.Ordering.TheVariants.{Less, Equal, Greater}
use Rattle.sgb_search.proofs.Searches.Digits.{digits_half, digits_mono, within_halving}
use Rattle.sgb_search.specs.Searching.{digits, binary, IsWithin, IsBetween, WasAnswered, IsLowEnd, IsHighEnd, IsPlaceSearch}
use Rattle.sgb_split.specs.Judges.{IsRun, IsCallable}
use Rattle.sgb_split.proofs.Questions.Runs.{run_push}
use Rattle.sgb_split.proofs.Lists.AllByRecursion.{all_push}
use Rattle.sgb_search.proofs.Searches.Boundaries.{low_more, high_more, answered_left}

-- of two middles, the one that is asked about where size is exact
pub upper_middle : (from size : ℕ) → 0 < size → IsBetween from (from + size) (from + size / 2)
upper_middle from size h = (omega arith, omega arith)

module _ {S A : Type 0} (may : S → ℕ → Type 0) (gives : S → ℕ → A → S → Type 0) (reads : A → Ordering) where
  -- the search of the places from low up to high, from the state s, is left with those from `from` up to `upto`: as many as size, or one
  -- fewer
  pub record Narrows (low high : ℕ) (s : S) (from upto size : ℕ) (t : S) : Type 0 where
    pub questions : List (ℕ × A)
    pub run : IsRun may gives s questions t
    pub places : AllByRecursion (λ q. IsBetween low high q.0) questions
    pub order : (low ≤ from) × (from ≤ upto) × (upto ≤ high)
    pub left : (upto ≤ from + size) × (from + size ≤ upto + 1)
    pub most : length questions + digits size ≤ digits (high - low)
    pub low_end : IsLowEnd (WasAnswered reads questions) low from
    pub high_end : IsHighEnd (WasAnswered reads questions) high upto

  module _ (low high : ℕ) (s : S) (from upto size : ℕ) (t : S) (n : Narrows low high s from upto size t) where
    pub narrows_may : IsCallable may gives (IsBetween low high) s → (middle : ℕ) → IsBetween from upto middle → may t middle
    narrows_may h middle b = h n.questions t n.run n.places middle (omega (arith, n.order, b), omega (arith, n.order, b))

    -- and where it may be one more
    pub lower_middle : from < upto → IsBetween from upto (from + (size - 1) / 2)
    lower_middle h = (omega arith, omega (arith, n.left))

    fits : (g m : ℕ) → 0 < g → g ≤ high - low + 1 → m ≤ digits (high - low) → IsWithin binary (high - low + 1) g m
    fits g m some le most =
        within_halving (high - low + 1) g m some le (omega (arith, most, digits_mono (high - low) (high - low + 1 - 1) (omega arith)))

    module _ (u : S) (middle : ℕ) (b : IsBetween from upto middle) (m : may t middle) where
      module _ (a : A) (g : gives t middle a u) where
        abbrev asked : List (ℕ × A)
        asked = n.questions ++ (middle, a) ∷ []

        run : IsRun may gives s asked u
        run = run_push may gives s n.questions t u middle a n.run m g

        places : AllByRecursion (λ q. IsBetween low high q.0) asked
        places = all_push _ n.questions (middle, a) n.places (omega (arith, n.order, b), omega (arith, n.order, b))

        one_more : length asked ≡ length n.questions + 1
        one_more = length-append n.questions ((middle, a) ∷ [])

        halved : (size' : ℕ) → size' ≤ size / 2 → length asked + digits size' ≤ digits (high - low)
        halved size' h = omega (arith, n.most, one_more, digits_half size size' (omega (arith, n.left, b)) h)

        answered : (o : Ordering) → o ≡ reads a → WasAnswered reads asked middle o
        answered o e = (a, Contains-push n.questions (middle, a), sym e)

        narrows_less : Less ≡ reads a → (size' : ℕ) → size' ≤ size / 2 → (upto ≤ middle + 1 + size') × (middle + size' ≤ upto)
            → Narrows low high s (middle + 1) upto size' u
        narrows_less e size' h l = record {
          questions = asked;
          run = run;
          places = places;
          order = (omega (arith, n.order, b), omega (arith, b), n.order.2);
          left = (l.0, omega (arith, l.1));
          most = halved size' h;
          low_end =
              inr (
                omega (arith, n.order, b),
                subst (λ (k : ℕ). WasAnswered reads asked k Less) {x = middle} {y = middle + 1 - 1} (omega arith) (answered Less e),
              );
          high_end = high_more _ _ (answered_left reads n.questions ((middle, a) ∷ [])) high upto n.high_end;
        }

        narrows_greater : Greater ≡ reads a → (size' : ℕ) → size' ≤ size / 2 → (middle ≤ from + size') × (from + size' ≤ middle + 1)
            → Narrows low high s from middle size' u
        narrows_greater e size' h l = record {
          questions = asked;
          run = run;
          places = places;
          order = (n.order.0, b.0, omega (arith, n.order, b));
          left = l;
          most = halved size' h;
          low_end = low_more _ _ (answered_left reads n.questions ((middle, a) ∷ [])) low from n.low_end;
          high_end = inr (omega (arith, n.order, b), answered Greater e);
        }

        pub narrows_found : (o : Ordering) → o ≡ reads a → true ≡ is_eq o → IsPlaceSearch may gives reads binary low high s (Ok middle) u
        narrows_found Less e f = absurd (true≢false f)
        narrows_found Equal e f = record {
          questions = asked;
          run = run;
          places = places;
          most = fits (middle - low + 1) _ (omega arith) (omega (arith, n.order, b)) (omega (arith, halved 0 (omega arith)));
          tells = ((omega (arith, n.order, b), omega (arith, n.order, b)), (n.questions, a, refl, sym e));
        }
        narrows_found Greater e f = absurd (true≢false f)

        -- after any other answer
        pub narrows_step : middle ≡ from + (size - 1) / 2 → (o : Ordering) → o ≡ reads a → false ≡ is_eq o → (from' upto' : ℕ)
            → ((true ≡ is_lt o) × (from' ≡ middle + 1)) ⊎ ((false ≡ is_lt o) × (from' ≡ from))
            → ((true ≡ is_gt o) × (upto' ≡ middle)) ⊎ ((false ≡ is_gt o) × (upto' ≡ upto))
            → Narrows low high s from' upto' (size / 2) u
        narrows_step is Less g e from' upto' (inl f) (inl h) = absurd (true≢false h.0)
        narrows_step is Less g e from' upto' (inl f) (inr h) =
            rw (f.1, h.1) (narrows_less g _ (omega arith) (omega (arith, n.left, b), omega (arith, n.left, b)))
        narrows_step is Less g e from' upto' (inr f) h = absurd (true≢false (sym f.0))
        narrows_step is Equal g e from' upto' f h = absurd (true≢false (sym e))
        narrows_step is Greater g e from' upto' (inl f) h = absurd (true≢false f.0)
        narrows_step is Greater g e from' upto' (inr f) (inl h) =
            rw (f.1, h.1) (narrows_greater g _ (omega arith) (omega (arith, n.left, b), omega (arith, n.left, b)))
        narrows_step is Greater g e from' upto' (inr f) (inr h) = absurd (true≢false (sym h.0))

        -- after one of two answers, where size is exact
        pub bisects_step : middle ≡ from + size / 2 → upto ≡ from + size → (o : Ordering) → o ≡ reads a → reads a ≢ Equal
            → (from' size' : ℕ)
            → ((true ≡ is_lt o) × (from' ≡ middle + 1) × (size' ≡ size - 1)) ⊎ ((false ≡ is_lt o) × (from' ≡ from) × (size' ≡ size))
            → Narrows low high s from' (from' + size' / 2) (size' / 2) u
        bisects_step is end Less g e from' size' (inl f) =
            subst (λ (k : ℕ). Narrows low high s from' k (size' / 2) u) {x = upto} (omega (arith, b))
            (rw (f.1, f.2) (narrows_less g _ (omega arith) (omega (arith, b), omega (arith, b))))
        bisects_step is end Less g e from' size' (inr f) = absurd (true≢false (sym f.0))
        bisects_step is end Equal g e from' size' f = absurd (e (sym g))
        bisects_step is end Greater g e from' size' (inl f) = absurd (true≢false f.0)
        bisects_step is end Greater g e from' size' (inr f) =
            subst (λ (k : ℕ). Narrows low high s from' k (size' / 2) u) {x = middle} (omega arith)
            (rw (f.1, f.2) (narrows_greater g _ (omega arith) (omega arith, omega arith)))

    pub narrows_end : upto ≤ from → IsPlaceSearch may gives reads binary low high s (Err from) t
    narrows_end h =
        let e : from ≡ upto = omega (arith, n.order) in
        record {
          questions = n.questions;
          run = n.run;
          places = n.places;
          most = fits (from - low + 1) _ (omega arith) (omega (arith, n.order)) (omega (arith, n.most));
          tells = (
            n.order.0,
            omega (arith, n.order),
            record { low_end = inl n.low_end; high_end = inl (subst (λ (k : ℕ). IsHighEnd (WasAnswered reads n.questions) high k) (sym e) n.high_end) },
          );
        }
