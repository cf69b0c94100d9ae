-- The steps of galloping.
use Rattle.std.specs.Prelude.{◌≡◌, ℕ, ◌+◌, ◌-◌, ◌*◌, ◌<◌, ◌≤◌, List, [], ◌∷◌, ◌++◌, length, ◌⊎◌, ◌≢◌, true, false, refl, Result, Ok, Err}
use Rattle.std.proofs.Common.{sym, ap, subst, arith, inl, inr, length-append, append_assoc, ◌∙◌, true≢false, is_lt}
use Rattle.std.specs.List.{AllByRecursion, Contains}
use Rattle.std.proofs.lemmas.List.Elements.{Contains-push}
use Rattle.std.specs.declared.cmp.Ordering.{Ordering}
use Rattle.std.specs.declared.cmp.Ordering.TheVariants.{Less, Equal, Greater}
use Rattle.sgb_search.specs.Searching.{digits, binary, exponential, IsWithin, IsBetween, WasAnswered, IsLowEnd, IsHighEnd, TellsBoundary, IsPlaceSearch, IsBracket}
use Rattle.sgb_search.proofs.Searches.Digits.{digits_half, digits_zero, digits_mono, digits_le_self, within_galloping}
use Rattle.sgb_split.specs.Judges.{IsRun, IsCallable}
use Rattle.sgb_split.proofs.Questions.Runs.{run_push, run_append, may_after}
use Rattle.sgb_split.proofs.Lists.AllByRecursion.{all_push, all_append, all_each}
use Rattle.sgb_search.proofs.Searches.Boundaries.{answered_left, answered_right}

module _ {S A : Type 0} (may : S → ℕ → Type 0) (gives : S → ℕ → A → S → Type 0) (reads : A → Ordering) where
  -- low was answered Less, and place is twice as far from start, or stop where that is nearer
  pub record HasDoubled (start stop low place : ℕ) (questions : List (ℕ × A)) : Type 0 where
    pub positive : start < low
    pub ahead : low < place
    pub near : place + start ≤ 2 * low
    pub within : place ≤ stop
    pub twice : place < stop → place + start ≡ 2 * low
    pub answered : WasAnswered reads questions low Less

  -- after some doublings: low was the last to be answered Less, and place is next
  pub record Doubles (start stop : ℕ) (s : S) (low place : ℕ) (t : S) : Type 0 where
    pub questions : List (ℕ × A)
    pub run : IsRun may gives s questions t
    pub places : AllByRecursion (λ q. IsBetween start stop q.0) questions
    pub after : start ≤ low
    pub most : length questions ≤ digits (low - start)
    pub low_end : ((low ≡ start) × (place ≡ start + 1)) ⊎ HasDoubled start stop low place questions

-- an answer that is below
pub less_below : (o : Ordering) → true ≡ is_lt o → o ≡ Less
less_below Less e = refl
less_below Equal e = absurd (true≢false e)
less_below Greater e = absurd (true≢false e)

-- what is shown without a contradiction, as halving shows its ends
one_way : {A B : Type 0} → A ⊎ ((false ≡ true) × B) → A
one_way (inl a) = a
one_way (inr never) = cc never.0

pub not_less : (o : Ordering) → false ≡ is_lt o → o ≢ Less
not_less o e f = true≢false (sym (e ∙ ap is_lt f))

module _ {S A : Type 0} (may : S → ℕ → Type 0) (gives : S → ℕ → A → S → Type 0) (reads : A → Ordering) (start stop : ℕ) (s : S) (up : start ≤ stop) where
  pub doubles_start : (place : ℕ) → place ≡ start + 1 → Doubles may gives reads start stop s start place s
  doubles_start place e =
      record { questions = []; run = refl; places = tt; after = omega arith; most = omega arith; low_end = inl (refl, e) }

  module _ (low place : ℕ) (t : S) (n : Doubles may gives reads start stop s low place t) where
    pub doubles_low : place < stop → low < place
    doubles_low b = elim n.low_end as (λ _. low < place) [ inl e ↦ omega (arith, e) | inr e ↦ e.ahead ]

    pub doubles_may : IsCallable may gives (IsBetween start stop) s → place < stop → may t place
    doubles_may h b = h n.questions t n.run n.places place (omega (arith, n.after, doubles_low b), b)

    twice : place < stop → digits (low - start) + 1 ≤ digits (place - start)
    twice b = elim n.low_end as (λ _. digits (low - start) + 1 ≤ digits (place - start)) [
      | inl e ↦ digits_half (place - start) (low - start) (omega (arith, e)) (omega (arith, e))
      | inr e ↦ digits_half (place - start) (low - start) (omega (arith, n.after, e.ahead)) (omega (arith, n.after, e.twice b))
    ]

    -- nothing was asked where low is start
    none : low ≡ start → length n.questions ≤ 0
    none z = omega (arith, n.most, digits_zero, digits_mono (low - start) 0 (omega arith))

    stopped_most : place < stop → length n.questions + 1 + digits (place + 1 - low) ≤ 2 * digits (low - start + 1) + 1
    stopped_most b = elim n.low_end as (λ _. length n.questions + 1 + digits (place + 1 - low) ≤ 2 * digits (low - start + 1) + 1) [
      | inl e ↦
          let one : digits 0 + 1 ≤ digits (low - start + 1) = digits_half (low - start + 1) 0 (omega arith) (omega arith) in
          let two : digits (place + 1 - low) ≤ 2 = omega (arith, e, digits_le_self (place + 1 - low)) in
          omega (arith, none e.0)
      | inr e ↦
          let same : digits (place + 1 - low) ≤ digits (low - start + 1) = digits_mono _ _ (omega (arith, n.after, e.twice b)) in
          let below : digits (low - start) ≤ digits (low - start + 1) = digits_mono _ _ (omega arith) in
          omega (arith, n.most)
    ]

    ended_most : stop ≤ place → length n.questions + digits (stop + 1 - low) ≤ 2 * digits (low - start + 1) + 1
    ended_most b = elim n.low_end as (λ _. length n.questions + digits (stop + 1 - low) ≤ 2 * digits (low - start + 1) + 1) [
      | inl e ↦
          let one : digits 0 + 1 ≤ digits (low - start + 1) = digits_half (low - start + 1) 0 (omega arith) (omega arith) in
          let two : digits (stop + 1 - low) ≤ 2 = omega (arith, e, digits_le_self (stop + 1 - low)) in
          omega (arith, none e.0)
      | inr e ↦
          let same : digits (stop + 1 - low) ≤ digits (low - start + 1) = digits_mono _ _ (omega (arith, n.after, e.near)) in
          let below : digits (low - start) ≤ digits (low - start + 1) = digits_mono _ _ (omega arith) in
          omega (arith, n.most)
    ]

    low_known : (low ≡ start) ⊎ WasAnswered reads n.questions low Less
    low_known = elim n.low_end as (λ _. (low ≡ start) ⊎ WasAnswered reads n.questions low Less) [ inl e ↦ inl e.0 | inr e ↦ inr e.answered ]

    low_within : stop ≤ place → low ≤ stop
    low_within b = elim n.low_end as (λ _. low ≤ stop) [ inl e ↦ omega (arith, up, e) | inr e ↦ omega (arith, e.ahead, e.within) ]

    low_below : stop ≤ place → stop ≤ low → stop ≤ start
    low_below b p = elim n.low_end as (λ _. stop ≤ start) [ inl e ↦ omega (arith, e) | inr e ↦ absurd (omega (arith, e.ahead, e.within)) ]

    pub doubles_end : stop ≤ place → IsBracket may gives reads start stop s low stop t
    doubles_end b = record {
      questions = n.questions;
      run = n.run;
      places = n.places;
      after = n.after;
      order = low_within b;
      within = omega arith;
      nonempty = low_below b;
      most = ended_most b;
      low_end = low_known;
      high_end = inl refl;
    }

    module _ (b : place < stop) (m : may t place) (u : S) where
      module _ (a : A) (g : gives t place a u) where
        abbrev asked : List (ℕ × A)
        asked = n.questions ++ (place, a) ∷ []

        run : IsRun may gives s asked u
        run = run_push may gives s n.questions t u place a n.run m g

        places : AllByRecursion (λ q. IsBetween start stop q.0) asked
        places = all_push _ n.questions (place, a) n.places (omega (arith, n.after, doubles_low b), b)

        answered : (o : Ordering) → o ≡ reads a → WasAnswered reads asked place o
        answered o e = (a, Contains-push n.questions (place, a), sym e)

        pub doubles_stop : (o : Ordering) → o ≡ reads a → o ≢ Less → IsBracket may gives reads start stop s low place u
        doubles_stop o e ne = record {
          questions = asked;
          run = run;
          places = places;
          after = n.after;
          order = omega (arith, doubles_low b);
          within = omega arith;
          nonempty = λ p. absurd (omega (arith, doubles_low b));
          most = omega (arith, stopped_most b, length-append n.questions ((place, a) ∷ []));
          low_end = elim low_known as (λ _. (low ≡ start) ⊎ WasAnswered reads asked low Less) [
            | inl e ↦ inl e
            | inr e ↦ inr (answered_left reads n.questions ((place, a) ∷ []) low Less e)
          ];
          high_end = inr (b, (o, answered o e, ne));
        }

        pub doubles_on : Less ≡ reads a → (next : ℕ) → place < next → next + start ≤ 2 * place → next ≤ stop
            → (next < stop → next + start ≡ 2 * place) → Doubles may gives reads start stop s place next u
        doubles_on is next p q r e = record {
          questions = asked;
          run = run;
          places = places;
          after = omega (arith, n.after, doubles_low b);
          most = omega (arith, n.most, twice b, length-append n.questions ((place, a) ∷ []));
          low_end =
              inr (record {
                positive = omega (arith, n.after, doubles_low b);
                ahead = p;
                near = q;
                within = r;
                twice = e;
                answered = answered Less is;
              });
        }

  -- halving goes from `from` up to `upto`: where that leaves out the low end, it was answered Less, and the high end Greater
  module _ (low high : ℕ) (t : S) (n : IsBracket may gives reads start stop s low high t) (from upto : ℕ)
      (starts : (from ≡ low) ⊎ ((from ≡ low + 1) × (start < low)))
      (ends : ((upto ≡ high) × ((high ≡ stop) ⊎ ((a : A) → reads a ≢ Equal))) ⊎ ((upto ≡ high + 1) × (high < stop))) where
    inside : upto ≤ stop
    inside = elim ends as (λ _. upto ≤ stop) [ inl e ↦ omega (arith, e.0, n.within) | inr e ↦ omega (arith, e) ]

    beyond : high ≤ upto
    beyond = elim ends as (λ _. high ≤ upto) [ inl e ↦ omega (arith, e.0) | inr e ↦ omega (arith, e) ]

    one_more : upto ≤ high + 1
    one_more = elim ends as (λ _. upto ≤ high + 1) [ inl e ↦ omega (arith, e.0) | inr e ↦ omega (arith, e) ]

    above : low ≤ from
    above = elim starts as (λ _. low ≤ from) [ inl e ↦ omega (arith, e) | inr e ↦ omega (arith, e.0) ]

    pub in_order : from ≤ upto
    in_order = elim starts as (λ _. from ≤ upto) [
      | inl e ↦ omega (arith, e, n.order, beyond)
      | inr e ↦ grind (arith, e, n.nonempty, n.order, n.within, beyond)
    ]

    pub bracket_may : IsCallable may gives (IsBetween start stop) s → IsCallable may gives (IsBetween from upto) t
    bracket_may h =
        may_after may gives (IsBetween start stop) (IsBetween from upto)
        (λ q b. (omega (arith, b, n.after, above), omega (arith, b, inside))) s n.questions t n.run n.places h

    module _ (hs : List (ℕ × A)) where
      abbrev all : List (ℕ × A)
      all = n.questions ++ hs

      -- what the bracket's answers say, and the halving's, of all
      first : (i : ℕ) (o : Ordering) → WasAnswered reads n.questions i o → WasAnswered reads all i o
      first = answered_left reads n.questions hs

      then : (i : ℕ) (o : Ordering) → WasAnswered reads hs i o → WasAnswered reads all i o
      then = answered_right reads n.questions hs

      Less≢Greater : Less ≢ Greater
      Less≢Greater e = cc

      before : (i : ℕ) → (from < i) × WasAnswered reads hs (i - 1) Less → IsLowEnd (WasAnswered reads all) start i
      before i p = inr (omega (arith, n.after, above, p.0), then (i - 1) Less p.1)

      at : (i : ℕ) → (i < upto) × WasAnswered reads hs i Greater → IsHighEnd (WasAnswered reads all) stop i
      at i g = inr (omega (arith, inside, g.0), then i Greater g.1)

      greater : (o : Ordering) → o ≢ Less → o ≢ Equal → o ≡ Greater
      greater Less l e = absurd (l refl)
      greater Equal l e = absurd (e refl)
      greater Greater l e = refl

      -- nothing lies beyond the high end, or it was answered Greater
      refused : (high ≡ stop) ⊎ ((a : A) → reads a ≢ Equal) → (high ≡ stop) ⊎ ((high < stop) ×
          ((o : Ordering) × WasAnswered reads n.questions high o × (o ≢ Less))) → (i : ℕ) → i ≡ high
          → IsHighEnd (WasAnswered reads all) stop i
      refused two (inl e) i f = inl (omega arith)
      refused (inl e) (inr k) i f = inl (omega arith)
      refused (inr two) (inr (b, (o, (a, has, is), less))) i f =
          let same = greater o less (λ e. two a (is ∙ e)) in
          inr (omega arith, first i Greater (a, subst (λ (j : ℕ). Contains n.questions (j, a)) (sym f) has, is ∙ same))

      -- where halving ended at an end of the bracket, the answer that put it there stands against the halving's own
      ended : ((upto ≡ high) × ((high ≡ stop) ⊎ ((a : A) → reads a ≢ Equal))) ⊎ ((upto ≡ high + 1) × (high < stop))
          → (high ≡ stop) ⊎ ((high < stop) × ((o : Ordering) × WasAnswered reads n.questions high o × (o ≢ Less))) → (i : ℕ)
          → i ≡ upto → (from < i) × WasAnswered reads hs (i - 1) Less → TellsBoundary (WasAnswered reads all) true start stop i
      ended (inl e) y i f p = record { low_end = inl (before i p); high_end = inl (refused e.1 y i (f ∙ e.0)) }
      ended (inr e) (inl y) i f p = absurd (omega (arith, e, y))
      ended (inr e) (inr (b, (o, was, less))) i f p =
          let here = subst (λ (j : ℕ). WasAnswered reads n.questions j o) {x = high} {y = i - 1} (omega (arith, e.0)) was in
          record {
            low_end = inl (before i p);
            high_end = inr (refl, (omega (arith, n.after, above, p.0), (o, Less, first (i - 1) o here, then (i - 1) Less p.1, less)));
          }

      begun : (from ≡ low) ⊎ ((from ≡ low + 1) × (start < low))
          → ((upto ≡ high) × ((high ≡ stop) ⊎ ((a : A) → reads a ≢ Equal))) ⊎ ((upto ≡ high + 1) × (high < stop))
          → (low ≡ start) ⊎ WasAnswered reads n.questions low Less → (i : ℕ) → i ≡ from → IsHighEnd (WasAnswered reads hs) upto i
          → TellsBoundary (WasAnswered reads all) true start stop i
      begun (inl d) y x i e (inl f) =
          let z : stop ≤ start = n.nonempty (omega (arith, beyond)) in
          record {
            low_end = inl (inl (omega (arith, z, n.after, n.order, n.within)));
            high_end = inl (inl (omega (arith, z, n.after, n.order, n.within)));
          }
      begun (inl d) y (inl z) i e (inr g) =
          record { low_end = inl (inl (omega arith)); high_end = inl (at i g) }
      begun (inl d) y (inr k) i e (inr g) =
          let here = subst (λ (j : ℕ). WasAnswered reads n.questions j Less) (sym (e ∙ d)) k in
          record { low_end = inr (refl, (Less, Greater, first i Less here, then i Greater g.1, Less≢Greater)); high_end = inl (at i g) }
      begun (inr d) y (inl z) i e h = absurd (omega (arith, d, z))
      begun (inr d) y (inr k) i e h =
          let last = subst (λ (j : ℕ). WasAnswered reads n.questions j Less) {x = low} {y = i - 1} (omega (arith, d.0, e)) k in
          record { low_end = inl (inr (omega (arith, d, e), first (i - 1) Less last)); high_end = inl (high_of y h) }
        where
          high_of : ((upto ≡ high) × ((high ≡ stop) ⊎ ((a : A) → reads a ≢ Equal))) ⊎ ((upto ≡ high + 1) × (high < stop))
              → IsHighEnd (WasAnswered reads hs) upto i → IsHighEnd (WasAnswered reads all) stop i
          high_of y (inr g) = at i g
          high_of (inl y) (inl f) = refused y.1 n.high_end i (f ∙ y.0)
          high_of (inr y) (inl f) = let z : stop ≤ start = n.nonempty (omega (arith, y.0, d.0, e, f)) in absurd (omega (arith, z, d.1, n.order, y.1))

      boundary : (i : ℕ) → IsLowEnd (WasAnswered reads hs) from i → IsHighEnd (WasAnswered reads hs) upto i
          → TellsBoundary (WasAnswered reads all) true start stop i
      boundary i (inr p) (inl f) = ended ends n.high_end i f p
      boundary i (inr p) (inr g) = record { low_end = inl (before i p); high_end = inl (at i g) }
      boundary i (inl e) h = begun starts ends n.low_end i e h

    module _ (u : S) where
      fits : (i m : ℕ) → from ≤ i → i ≤ stop → m ≤ digits (upto - from + 1 - 1) → IsWithin exponential (stop - start + 1) (i - start + 1)
          (length n.questions + m)
      fits i m least most few =
          within_galloping (stop - start + 1) (i - start + 1) (length n.questions + m) (omega (arith, n.after)) (omega (arith, n.after, above))
          (omega (
            arith,
            few,
            n.most,
            digits_mono (upto - from + 1 - 1) (high + 1 - low) (omega (arith, one_more, above)),
            digits_mono (low - start + 1) (i - start + 1)
                (omega (arith, n.after, above)),
          ))

      fits_all : (i : ℕ) (hs : List (ℕ × A)) → from ≤ i → i ≤ stop → length hs ≤ digits (upto - from + 1 - 1) → IsWithin exponential
          (stop - start + 1) (i - start + 1) (length (n.questions ++ hs))
      fits_all i hs least most few =
          subst (IsWithin exponential (stop - start + 1) (i - start + 1)) (sym (length-append n.questions hs)) (fits i (length hs) least most few)

      places_all : (hs : List (ℕ × A)) → AllByRecursion (λ q. IsBetween from upto q.0) hs
          → AllByRecursion (λ q. IsBetween start stop q.0) (n.questions ++ hs)
      places_all hs h = all_append _ n.questions hs n.places (all_each _ _
          (λ q b. (omega (arith, b, n.after, above), omega (arith, b, inside))) hs h)

      pub gallop_ends : (r : Result ℕ ℕ) → IsPlaceSearch may gives reads binary from upto t r u
          → IsPlaceSearch may gives reads exponential start stop s r u
      gallop_ends (Ok i) h =
          let b = h.tells.0 in
          let f = h.tells.1 in
          record {
            questions = n.questions ++ h.questions;
            run = run_append may gives s n.questions t h.questions u n.run h.run;
            places = places_all h.questions h.places;
            most = fits_all i h.questions b.0 (omega (arith, b, inside)) h.most.call;
            tells = (
              (omega (arith, b, n.after, above), omega (arith, b, inside)),
              (
                n.questions ++ f.0,
                f.1,
                ap (λ (l : List (ℕ × A)). n.questions ++ l) f.2 ∙ sym (append_assoc n.questions f.0 ((i, f.1) ∷ [])),
                f.3,
              ),
            );
          }
      gallop_ends (Err i) h =
          let tells = h.tells in
          record {
            questions = n.questions ++ h.questions;
            run = run_append may gives s n.questions t h.questions u n.run h.run;
            places = places_all h.questions h.places;
            most = fits_all i h.questions tells.0 (omega (arith, tells.1, inside)) h.most.call;
            tells = (
              omega (arith, tells.0, n.after, above),
              omega (arith, tells.1, inside),
              boundary h.questions i (one_way tells.2.low_end) (one_way tells.2.high_end),
            );
          }
