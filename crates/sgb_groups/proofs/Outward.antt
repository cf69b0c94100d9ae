-- A search from an end of a part of a slice, at places of the whole slice: when it may be made, and what it asks.
use Rattle.std.proofs.Common.{◌≡◌, ℕ, ◌+◌, ◌-◌, ◌<◌, ◌≤◌, List, [], ◌∷◌, ◌++◌, length, get_or, take, drop, drop-cons, refl, subst, sym, ap, ◌∙◌, arith, inl, inr}
use Rattle.std.specs.Prelude.{Bool, true, ◌⊎◌, ◌↔◌, Result, Err, Some, map, option_map, reverse, slice_get, slice_range}
use Rattle.std.specs.List.{AllByRecursion, Contains}
use Rattle.std.specs.declared.cmp.Ordering.{Ordering}
use Rattle.std.specs.declared.cmp.Ordering.TheVariants.{Less}
use Rattle.std.proofs.lemmas.List.{length-reverse, length-map, reverse-append}
use Rattle.std.proofs.lemmas.Option.{slice_get-get_or, slice_get-map}
use Rattle.sgb_split.specs.declared.end.End.{End}
use Rattle.sgb_split.specs.declared.end.End.TheVariants.{Front, Back}
use Rattle.sgb_split.specs.declared.judge.Judge.{Ghosts}
use Rattle.sgb_split.specs.Split.{from, AreApart}
use Rattle.sgb_split.specs.Judges.{IsCallable, IsRun}
use Rattle.sgb_search.specs.Searching.{SearchCost, IsBetween, IsWithin, IsPlaceSearch, MayAskAt, AnsweredAt, WasAnswered, Contradicts, IsLowEnd, IsHighEnd, TellsBoundary, beside, outward, as_ordering, answer_place, SearchQuestions}
use Rattle.sgb_split.proofs.Lists.AllByRecursion.{all_contains, all_each, all_map, all_of_map, all_when}
use Rattle.sgb_split.proofs.Lists.Apart.{get_reverse}
use Rattle.sgb_search.proofs.Searches.Outward.{outward_apart, outward_len}
use Rattle.sgb_split.proofs.Lists.Ranges.{length-range, get_or-range}
use Rattle.sgb_search.proofs.Searches.AtPlaces.{may_places}
use Rattle.sgb_search.proofs.Searches.Boundaries.{ends_at, never_equal, tells_more}
use Rattle.sgb_groups.proofs.Parts.{range_split}

-- the pair that is asked about, as its second element is read
module _ {T : Type 0} (x : T) (others : List T) (i : ℕ) (e : T) where
  pub front_at : i < length (beside x others) → slice_get (beside x others) i ≡ Some (x, get_or others i e)
  front_at l =
      slice_get-map (λ y. (x, y)) others i
      ∙ ap (option_map (λ y. (x, y))) (slice_get-get_or others i e (omega (arith, l, length-map {B = T × T} others (λ y. (x, y)))))

  pub back_at : i < length (beside x (reverse others))
      → slice_get (beside x (reverse others)) i ≡ Some (x, get_or others (length others - 1 - i) e)
  back_at l =
      let within : i < length others = omega (arith, l, length-map {B = T × T} (reverse others) (λ y. (x, y)), length-reverse others) in
      slice_get-map (λ y. (x, y)) (reverse others) i
      ∙ ap (option_map (λ y. (x, y))) (get_reverse others i (get_or others (length others - 1 - i) e) within
      (slice_get-get_or others (length others - 1 - i) e (omega (arith, within))))

-- the part as it reads from an end: its outermost element x, and the others
module _ {T : Type 0} (xs : List T) (low high : ℕ) (order : low < high) (inside : high ≤ length xs) (x : T) where
  one : (i j : ℕ) → j ≡ i + 1 → i < length xs → x ≡ get_or xs i x → slice_range xs i j ≡ x ∷ []
  one i j e l is =
      ap (λ (k : ℕ). take k (drop i xs)) {x = j - i} {y = 1} (omega (arith, e)) ∙ ap (take 1) (drop-cons xs i x l)
      ∙ ap (λ (y : T). y ∷ []) (sym is)

  pub front_cut : x ≡ get_or xs low x → slice_range xs low high ≡ x ∷ slice_range xs (low + 1) high
  front_cut is =
      range_split xs low (low + 1) high (omega arith) (omega (arith, order))
      ∙ ap (λ (ys : List T). ys ++ slice_range xs (low + 1) high) (one low (low + 1) refl (omega (arith, order, inside)) is)

  pub back_cut : x ≡ get_or xs (high - 1) x → reverse (slice_range xs low high) ≡ x ∷ reverse (slice_range xs low (high - 1))
  back_cut is =
      ap reverse (range_split xs low (high - 1) high (omega (arith, order)) (omega arith)
      ∙ ap (λ (ys : List T). slice_range xs low (high - 1) ++ ys) (one (high - 1) high (omega (arith, order)) (omega (arith, order, inside)) is))
      ∙ reverse-append (slice_range xs low (high - 1)) (x ∷ [])

-- a search among the places from low up to high is one of as many places from 0, where what may be asked and answered there is known
module _ {S A : Type 0} (may more : S → ℕ → Type 0) (gives given : S → ℕ → A → S → Type 0) (reads : A → Ordering) (low high : ℕ)
    (sub : (s : S) (i : ℕ) → IsBetween low high i → may s i → more s (i - low))
    (same : (s : S) (i : ℕ) (a : A) (t : S) → IsBetween low high i → gives s i a t → given s (i - low) a t) where
  abbrev moved : ℕ × A → ℕ × A
  moved r = (r.0 - low, r.1)

  run_moved : (s : S) (rs : List (ℕ × A)) (t : S) → IsRun may gives s rs t → AllByRecursion (λ r. IsBetween low high r.0) rs
      → IsRun more given s (map moved rs) t
  run_moved s [] t run all = run
  run_moved s (r ∷ rs) t run all =
      (sub s r.0 all.0 run.0, (run.1.0, same s r.0 r.1 run.1.0 all.0 run.1.1, run_moved run.1.0 rs t run.1.2 all.1))

  places_moved : (rs : List (ℕ × A)) → AllByRecursion (λ r. IsBetween low high r.0) rs
      → AllByRecursion (λ r. IsBetween 0 (high - low) r.0) (map moved rs)
  places_moved rs all =
      all_map moved (λ r. IsBetween 0 (high - low) r.0) rs (all_each _ _ (λ r b. (omega arith, omega (arith, b))) rs all)

  module _ (rs : List (ℕ × A)) where
    abbrev here : ℕ → Ordering → Type 0
    here = WasAnswered reads (map moved rs)

    answered_moved : (i : ℕ) (o : Ordering) → WasAnswered reads rs i o → here (i - low) o
    answered_moved i o (a, c, e) =
        (a, all_contains _ rs (i, a) (all_of_map moved (Contains (map moved rs)) rs (all_when _ (map moved rs) (λ r d. d))) c, e)

    boundary_moved : (both : Bool) (i : ℕ) → low ≤ i → TellsBoundary (WasAnswered reads rs) both low high i
        → TellsBoundary here both 0 (high - low) (i - low)
    boundary_moved both i l t =
        let m = tells_more (WasAnswered reads rs) (λ k. here (k - low)) answered_moved both low high i t in
        record {
          low_end = elim m.low_end as (λ _. IsLowEnd here 0 (i - low) ⊎ ((both ≡ true) × Contradicts here (i - low))) [
            | inl (inl e) ↦ inl (inl (omega arith))
            | inl (inr a) ↦ inl (inr (omega (arith, a.0), before (λ k. here k Less) a.1))
            | inr b ↦ inr b
          ];
          high_end =
              elim m.high_end as (λ _. IsHighEnd here (high - low) (i - low) ⊎ ((both ≡ true) × ((0 < i - low) × Contradicts here (i - low - 1)))) [
                | inl (inl e) ↦ inl (inl (omega arith))
                | inl (inr a) ↦ inl (inr (omega (arith, l, a.0), a.1))
                | inr b ↦ inr (b.0, (omega (arith, b.1.0), before (Contradicts here) b.1.1))
              ];
        }
      where
        before : (P : ℕ → Type 0) → P (i - 1 - low) → P (i - low - 1)
        before P = subst P {x = i - 1 - low} {y = i - low - 1} (omega arith)

  pub search_moved : (cost : SearchCost) (n : ℕ) → n ≡ high - low → (s : S) (i : ℕ) (t : S)
      → IsPlaceSearch may gives reads cost low high s (Err i) t → IsPlaceSearch more given reads cost 0 n s (Err (i - low)) t
  search_moved cost n e s i t h =
      subst (λ (m : ℕ). IsPlaceSearch more given reads cost 0 m s (Err (i - low)) t) (sym e) (record {
        questions = map moved h.questions;
        run = run_moved s h.questions t h.run h.places;
        places = places_moved h.questions h.places;
        most =
            subst (λ (m : ℕ). IsWithin cost m (i - low - 0 + 1) (length (map moved h.questions))) {x = high - low + 1} {y = high - low - 0 + 1}
            (omega arith) (subst (λ (m : ℕ). IsWithin cost (high - low + 1) m (length (map moved h.questions))) {x = i - low + 1}
            {y = i - low - 0 + 1} (omega arith)
            (subst (IsWithin cost (high - low + 1) (i - low + 1)) (sym (length-map h.questions moved)) h.most));
        tells = (omega arith, omega (arith, h.tells.1), boundary_moved h.questions cost.may_contradict i h.tells.0 h.tells.2);
      })

-- the part of xs from low up to high as it reads from an end: its outermost element is x, and another one, the i-th from x, stands in xs
-- at the place at i
pub record Reads {T : Type 0} (e : End) (xs : List T) (low high : ℕ) (x : T) (at : ℕ → ℕ) : Type 0 where
  pub long : length (outward (from e (slice_range xs low high))) ≡ high - low - 1
  pub same : (i : ℕ) → IsBetween 1 (high - low) i
      → slice_get (outward (from e (slice_range xs low high))) (i - 1) ≡ slice_get (beside x xs) (at i)
  pub within : (i : ℕ) → IsBetween 1 (high - low) i → at i < length (beside x xs)

module _ {T : Type 0} (xs : List T) (low high : ℕ) (order : low < high) (inside : high ≤ length xs) (x : T) where
  part_len : length (slice_range xs low high) ≡ high - low
  part_len = length-range xs low high (omega (arith, order)) inside

  beside_len : (ys : List T) → length (beside x ys) ≡ length ys
  beside_len ys = length-map {B = T × T} ys (λ y. (x, y))

  stands : (j : ℕ) → j < high → slice_get (beside x xs) j ≡ Some (x, get_or xs j x)
  stands j l = front_at x xs j x (omega (arith, l, inside, beside_len xs))

  pub reads_front : x ≡ get_or xs low x → Reads Front xs low high x (λ i. low + i)
  reads_front is = record {
    long = omega (arith, outward_len (slice_range xs low high), part_len);
    same = λ i b.
        let others = slice_range xs (low + 1) high in
        let n = length-range xs (low + 1) high (omega (arith, order)) inside in
        ap (λ (part : List T). slice_get (outward part) (i - 1)) (front_cut xs low high order inside x is)
        ∙ front_at x others (i - 1) x (omega (arith, b, n, beside_len others))
        ∙ ap (λ (y : T). Some (x, y)) (get_or-range xs (low + 1) high (i - 1) (low + i) x (omega (arith, b)) (omega (arith, b)))
        ∙ sym (stands (low + i) (omega (arith, b)));
    within = λ i b. omega (arith, b, inside, beside_len xs);
  }

  pub reads_back : x ≡ get_or xs (high - 1) x → Reads Back xs low high x (λ i. high - 1 - i)
  reads_back is = record {
    long = omega (arith, outward_len (reverse (slice_range xs low high)), length-reverse (slice_range xs low high), part_len);
    same = λ i b.
        let others = slice_range xs low (high - 1) in
        let n = length-range xs low (high - 1) (omega (arith, order)) (omega (arith, inside)) in
        ap (λ (part : List T). slice_get (outward part) (i - 1)) (back_cut xs low high order inside x is)
        ∙ back_at x others (i - 1) x (omega (arith, b, n, length-reverse others, beside_len (reverse others)))
        ∙ ap (λ (y : T). Some (x, y))
        (get_or-range xs low (high - 1) (length others - 1 - (i - 1)) (high - 1 - i) x (omega (arith, b, n)) (omega (arith, b)))
        ∙ sym (stands (high - 1 - i) (omega (arith, b)));
    within = λ i b. omega (arith, b, inside, beside_len xs);
  }

-- may j i: in the state j the place i may be asked about
module _ {T J : Type 0} (g : Ghosts J T) (e : End) (xs : List T) (low high : ℕ) (x : T) (at : ℕ → ℕ) (reads : Reads e xs low high x at)
    (may : J → ℕ → Type 0)
    (means : (j : J) (i : ℕ) → IsBetween 1 (high - low) i → may j i ↔ MayAskAt g.may_ask g.answers (beside x xs) j (at i)) where
  abbrev part : List T
  part = slice_range xs low high

  abbrev asked : J → ℕ → Type 0
  asked = MayAskAt g.may_ask g.answers (outward (from e part))

  abbrev answered : J → ℕ → Bool → J → Type 0
  answered = AnsweredAt g.may_ask g.answers (outward (from e part))

  abbrev answers : J → ℕ → Bool → J → Type 0
  answers j i b k = AnsweredAt g.may_ask g.answers (beside x xs) j (at i) b k

  sub : (s : J) (i : ℕ) → IsBetween 1 (high - low) i → may s i → asked s (i - 1)
  sub s i b m = (omega (arith, b, reads.long), λ q there. ((means s i b).0 m).1 q (sym (reads.same i b) ∙ there))

  given : (s : J) (i : ℕ) (a : Bool) (t : J) → IsBetween 1 (high - low) i → answers s i a t → answered s (i - 1) a t
  given s i a t b h = (h.0, reads.same i b ∙ h.1, h.2)

  pub search_may : (j : J) → IsCallable g.may_ask g.answers (AreApart part) j → IsCallable may answers (IsBetween 1 (high - low)) j
  search_may j h rs t run all i b =
      let m = may_places g.may_ask g.answers (outward (from e part)) (IsBetween 0 (high - low - 1)) (AreApart part)
      (λ k q b. outward_apart e part k q) (λ k b. omega (arith, b, reads.long)) j h _ t
      (run_moved may asked answers answered as_ordering 1 (high - low) sub given j rs t run all)
      (places_moved may asked answers answered as_ordering 1 (high - low) sub given rs all) (i - 1) (omega arith, omega (arith, b)) in
      (means t i b).1 (reads.within i b, λ q there. m.1 q (reads.same i b ∙ there))

  pub search_asks : (cost : SearchCost) (j : J) (r : Result ℕ ℕ) (k : J)
      → IsPlaceSearch may answers as_ordering cost 1 (high - low) j r k → SearchQuestions g cost e part (answer_place r) j k
  search_asks cost j r k h =
      let place : r ≡ Err (answer_place r) = ends_at as_ordering h.questions _ 1 (high - low) never_equal r h.tells in
      search_moved may asked answers answered as_ordering 1 (high - low) sub given cost _ reads.long j (answer_place r) k
      (subst (λ (q : Result ℕ ℕ). IsPlaceSearch may answers as_ordering cost 1 (high - low) j q k) place h)
