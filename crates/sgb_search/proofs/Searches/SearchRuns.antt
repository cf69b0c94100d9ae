-- Searches of a list by a function of its elements: when they may be made, what they find, and what may be asked after them.
use Rattle.std.specs.Prelude.{◌≡◌, ℕ, ◌-◌, ◌<◌, ◌≤◌, List, length, ◌⊎◌, refl, Result, Ok, Err, Some}
use Rattle.std.specs.List.Sorted.{IsBinarySearchResult, IsNonDecreasingBy, IsPartitionPoint}
use Rattle.std.specs.Ordering.{ordering_index}
use Rattle.std.proofs.Common.{get_or, ap, arith, ◌∙◌, inl, inr}
use Rattle.std.specs.List.{Contains, slice_get}
use Rattle.std.proofs.lemmas.Option.{slice_get_within, get_or_from_slice_get}
use Rattle.std.specs.Fn.{Mut, TakesAt, CalledAt}
use Rattle.std.specs.Borrow.{Bor}
use Rattle.std.specs.declared.cmp.Ordering.{Ordering}
use Rattle.std.specs.declared.cmp.Ordering.TheVariants.{Less, Equal, Greater}
use Rattle.sgb_split.specs.Judges.{IsCallable, Computes}
use Rattle.sgb_search.specs.Searching.{IsBetween, MayAskAt, AnsweredAt}
use Rattle.sgb_search.specs.Search.{AnswersAt, IsLocalAnswer, FindsIn, IsLessEqualGreater, IsSearch}
use Rattle.sgb_split.specs.Judges.{IsCallableOn, ComputesOn}
use Rattle.sgb_search.proofs.Searches.AtPlaces as places
use Rattle.sgb_search.proofs.Searches.Boundaries.{tells_local}
use Rattle.sgb_search.proofs.Searches.PartitionPoint.{less_count}

pub contains_at : {T : Type 0} (xs : List T) (i : ℕ) (x : T) → slice_get xs i ≡ Some x → Contains xs x
contains_at xs i x e = (i, slice_get_within xs i x e, get_or_from_slice_get xs i x x e)

pub top_greater : (o : Ordering) → 2 ≤ ordering_index o → o ≡ Greater
top_greater Less h = absurd (omega arith)
top_greater Equal h = absurd (omega arith)
top_greater Greater h = refl

-- where the answers rise, a local boundary is the place between the Less and the Greater
module _ {T : Type 0} (ord : T → Ordering) (xs : List T) where
  bottom : (o : Ordering) → ordering_index o ≤ 0 → o ≡ Less
  bottom Less h = refl
  bottom Equal h = absurd (omega arith)
  bottom Greater h = absurd (omega arith)

  answer_read : (i : ℕ) (o : Ordering) → AnswersAt ord xs i o → (d : T) → ord (get_or xs i d) ≡ o
  answer_read i o a d = ap ord (get_or_from_slice_get xs i a.0 d a.1) ∙ a.2

  pub region : (r : Result ℕ ℕ) → IsLocalAnswer ord xs r → IsBinarySearchResult ord xs r
  region (Ok i) a = answer_read i Equal a
  region (Err i) b = λ up. (λ k d l h. bottom _ (before up k d h b.0), λ k d l h. top_greater _ (after up k d l h b.1))
    where
      before : IsNonDecreasingBy (λ y. ordering_index (ord y)) xs → (k : ℕ) (d : T) → k < i → (i ≡ 0) ⊎
          ((0 < i) × AnswersAt ord xs (i - 1) Less) → ordering_index (ord (get_or xs k d)) ≤ 0
      before up k d h (inl e) = absurd (omega arith)
      before up k d h (inr a) =
          let at : i - 1 < length xs = slice_get_within xs (i - 1) a.1.0 a.1.1 in
          let e : ordering_index (ord (get_or xs (i - 1) d)) ≡ 0 = ap ordering_index (answer_read (i - 1) Less a.1 d) in
          omega (arith, e, up k (i - 1) d (omega arith) at)

      after : IsNonDecreasingBy (λ y. ordering_index (ord y)) xs → (k : ℕ) (d : T) → i ≤ k → k < length xs → (i ≡ length xs)
          ⊎ ((i < length xs) × AnswersAt ord xs i Greater) → 2 ≤ ordering_index (ord (get_or xs k d))
      after up k d l h (inl e) = absurd (omega arith)
      after up k d l h (inr a) =
          let e : ordering_index (ord (get_or xs i d)) ≡ 2 = ap ordering_index (answer_read i Greater a.1 d) in
          omega (arith, e, up i k d l h)

  no_later : (i : ℕ) → IsLocalAnswer ord xs (Err i) → i ≤ length xs
  no_later i b = by b.1
    where
      by : (i ≡ length xs) ⊎ ((i < length xs) × AnswersAt ord xs i Greater) → i ≤ length xs
      by (inl e) = omega arith
      by (inr a) = omega (arith, a.0)

  equal_nowhere : (i j : ℕ) → AnswersAt ord xs j Equal → IsPartitionPoint (λ x. ord x ≡ Less) (λ x. ord x ≡ Greater) xs i → (j < i) ⊎
      (i ≤ j) → ⊥
  equal_nowhere i j a p (inl h) =
      let less : ord (get_or xs j a.0) ≡ Less = p.0 j a.0 (omega arith) h in let equal = answer_read j Equal a a.0 in cc (less, equal)
  equal_nowhere i j a p (inr h) =
      let greater : ord (get_or xs j a.0) ≡ Greater = p.1 j a.0 h (slice_get_within xs j a.0 a.1) in
      let equal = answer_read j Equal a a.0 in cc (greater, equal)

  pub finds : (r : Result ℕ ℕ) → IsLocalAnswer ord xs r → IsLessEqualGreater ord xs → FindsIn ord xs r
  finds (Ok i) a up = a
  finds (Err i) b up =
      let p = region (Err i) b up in
      record {
        none = λ j a. equal_nowhere i j a p (Rattle.std.proofs.lemmas.Bool.cases_lt j i);
        partition = p;
        place = less_count ord xs i (no_later i b) p;
      }

module _ {F T K : Type 0} (g : Mut F (Bor T × Unit {0}) K) (xs : List T) where
  pub may_places : (f : F) → IsCallableOn g xs f
      → IsCallable (MayAskAt (TakesAt g) (CalledAt g) xs) (AnsweredAt (TakesAt g) (CalledAt g) xs) (IsBetween 0 (length xs)) f
  may_places = places.may_places _ _ xs (IsBetween 0 (length xs)) (Contains xs) (λ i x b. contains_at xs i x) (λ i b. b.1)

  -- after a search
  module _ (reads : K → Ordering) (f : F) (r : Result ℕ ℕ) (t : F) (h : IsSearch g xs reads f r t) where
    pub search_boundary : (answer : T → K) → ComputesOn g xs answer f → IsLocalAnswer (λ x. reads (answer x)) xs r
    search_boundary answer by =
        tells_local reads (λ x. reads (answer x)) xs h.questions _
        (places.answered_by _ _ xs (IsBetween 0 (length xs)) (Contains xs) (λ i x b. contains_at xs i x) f h.questions t h.run h.places answer
        by reads) r h.tells

    -- of a list with these elements, what might be asked before may be asked, and is answered the same
    module _ (wide : T → Type 0) (sub : (x : T) → Contains xs x → wide x) where
      pub may_go_on : IsCallable (TakesAt g) (CalledAt g) wide f → IsCallable (TakesAt g) (CalledAt g) wide t
      may_go_on =
          places.may_go_on _ _ xs (IsBetween 0 (length xs)) wide (λ i x b e. sub x (contains_at xs i x e)) f h.questions t h.run h.places

      pub answers_go_on : (answer : T → K) → Computes (TakesAt g) (CalledAt g) wide answer f → Computes (TakesAt g) (CalledAt g) wide answer t
      answers_go_on =
          places.answers_go_on _ _ xs (IsBetween 0 (length xs)) wide (λ i x b e. sub x (contains_at xs i x e)) f h.questions t h.run h.places
