-- What holds of each two elements side by side, by their places and by the list of neighbours.
use Rattle.std.specs.Prelude.{◌≡◌, ◌≢◌, ℕ, ◌+◌, ◌<◌, Bool, true, false, List, [], ◌∷◌, length, Option, Some, map}
use Rattle.std.proofs.Common.{zero, suc, refl, sym, ap, ◌∙◌, arith, subst}
use Rattle.std.specs.List.{AllByRecursion, IsAllAdjacentAnswer, slice_index_or}
use Rattle.std.specs.List.Sorted.{IsSortedByKey}
use Rattle.std.specs.Cmp.{IsTotalOrder}
use Rattle.std.specs.Ordering.{partial_le, is_lt, ordering_reverse}
use Rattle.std.specs.declared.cmp.Ordering.{Ordering}
use Rattle.std.specs.declared.cmp.Ordering.TheVariants.{Less, Equal, Greater}
use Rattle.sgb_split.specs.Split.{neighbours}
use Rattle.sgb_split.proofs.Lists.Pairs.{neighbours_by_place}
use Rattle.sgb_search.specs.Search.{NeverDescends}
use Rattle.sgb_search.proofs.Searches.AscendingGroups.{along_keys}

module _ {A : Type 0} (P : A → A → Type 0) where
  pub place_by_neighbours : (xs : List A) → AllByRecursion (λ q. P q.0 q.1) (neighbours xs) → (k j : ℕ) (d : A) → j ≡ suc k → j < length xs
      → P (slice_index_or xs k d) (slice_index_or xs j d)
  place_by_neighbours [] h k j d e l = absurd (omega arith)
  place_by_neighbours (x ∷ []) h k j d e l = absurd (omega arith)
  place_by_neighbours (x ∷ y ∷ ys) h zero zero d e l = absurd (omega arith)
  place_by_neighbours (x ∷ y ∷ ys) h zero (suc zero) d e l = h.0
  place_by_neighbours (x ∷ y ∷ ys) h zero (suc (suc j)) d e l = absurd (omega arith)
  place_by_neighbours (x ∷ y ∷ ys) h (suc k) zero d e l = absurd (omega arith)
  place_by_neighbours (x ∷ y ∷ ys) h (suc k) (suc j) d e l = place_by_neighbours (y ∷ ys) h.1 k j d (omega arith) (omega arith)

module _ {A : Type 0} (compare : A → A → Option Ordering) (cmp : A → A → Ordering) (agree : (x y : A) → compare x y ≡ Some (cmp x y)) where
  not_greater : (x y : A) → partial_le compare x y ≡ true → cmp x y ≢ Greater
  not_greater x y h e = let p : compare x y ≡ Some Greater = agree x y ∙ ap Some e in cc (p, h)

  greater : (x y : A) → partial_le compare x y ≡ false → (r : Ordering) → cmp x y ≡ r → cmp x y ≢ Greater → ⊥
  greater x y h Less e n = let p : compare x y ≡ Some Less = agree x y ∙ ap Some e in cc (p, h)
  greater x y h Equal e n = let p : compare x y ≡ Some Equal = agree x y ∙ ap Some e in cc (p, h)
  greater x y h Greater e n = n e

  pub sorted_never_descends : (xs : List A) (r : Bool) → IsAllAdjacentAnswer (λ x y b. partial_le compare x y ≡ b) xs r → r ≡ true
      → NeverDescends cmp xs
  sorted_never_descends xs true h e =
      neighbours_by_place (λ x y. cmp x y ≢ Greater) xs
      (λ k j d e l. not_greater _ _
      (subst (λ (m : ℕ). partial_le compare (slice_index_or xs k d) (slice_index_or xs m d) ≡ true) {x = k + 1} {y = j} (omega arith)
      (h k d (omega arith))))
  sorted_never_descends xs false h e = cc e

  pub never_descends_sorted : (xs : List A) (r : Bool) → IsAllAdjacentAnswer (λ x y b. partial_le compare x y ≡ b) xs r
      → NeverDescends cmp xs → r ≡ true
  never_descends_sorted xs true h all = refl
  never_descends_sorted [] false h all = absurd (omega (arith, h.1))
  never_descends_sorted (x ∷ xs) false h all =
      absurd (greater _ _ (h.2 x) _ refl (place_by_neighbours (λ x y. cmp x y ≢ Greater) (x ∷ xs) all h.0 (h.0 + 1) x (omega arith) h.1))

-- what sorting by a key leaves never descends by it
module _ {T K : Type 0} (cmp : K → K → Ordering) (total : IsTotalOrder cmp) (key : T → K) where
  not_below : (o r : Ordering) → is_lt o ≡ false → r ≡ ordering_reverse o → r ≢ Greater
  not_below Less r h e g = cc h
  not_below Equal r h e g = cc (e, g)
  not_below Greater r h e g = cc (e, g)

  pub sort_ascends : (xs : List T) → IsSortedByKey key cmp xs → AllByRecursion (λ q. cmp (key q.0) (key q.1) ≢ Greater) (neighbours xs)
  sort_ascends xs h =
      neighbours_by_place (λ x y. cmp (key x) (key y) ≢ Greater) xs
      (λ k j d e l. not_below _ _
      (subst (λ (m : ℕ). is_lt (cmp (key (slice_index_or xs m d)) (key (slice_index_or xs k d))) ≡ false) {x = k + 1} {y = j} (omega arith)
      (h k d (omega arith) (omega arith))) (total.antisymm (key (slice_index_or xs k d)) (key (slice_index_or xs j d))))

  not_less : (o r : Ordering) → o ≢ Greater → r ≡ ordering_reverse o → is_lt r ≡ false
  not_less Less r h e = rw e refl
  not_less Equal r h e = rw e refl
  not_less Greater r h e = absurd (h refl)

  pub ascends_sorted : (xs : List T) → AllByRecursion (λ q. cmp (key q.0) (key q.1) ≢ Greater) (neighbours xs) → IsSortedByKey key cmp xs
  ascends_sorted xs h = λ k d low l.
      not_less _ _ (place_by_neighbours (λ x y. cmp (key x) (key y) ≢ Greater) xs h k (k + 1) d (omega arith) l)
      (total.antisymm (key (slice_index_or xs (k + 1) d)) (key (slice_index_or xs k d)))

  pub keys_of_neighbours : (xs : List T) → AllByRecursion (λ q. cmp (key q.0) (key q.1) ≢ Greater) (neighbours xs)
      → NeverDescends cmp (map key xs)
  keys_of_neighbours [] h = tt
  keys_of_neighbours (x ∷ []) h = tt
  keys_of_neighbours (x ∷ y ∷ ys) h = (h.0, keys_of_neighbours (y ∷ ys) h.1)

-- neither does a list of which the standard library says that it is sorted by a key
module _ {T K : Type 0} (compare : K → K → Option Ordering) (cmp : K → K → Ordering) (total : IsTotalOrder cmp)
    (agree : (x y : K) → compare x y ≡ Some (cmp x y)) (key : T → K) where
  pub sorted_by_key : (xs : List T) (r : Bool) → IsAllAdjacentAnswer (λ x y b. b ≡ partial_le compare (key x) (key y)) xs r → r ≡ true
      → NeverDescends cmp (map key xs)
  sorted_by_key xs true h e =
      keys_of_neighbours cmp total key xs
      (sorted_never_descends (λ x y. compare (key x) (key y)) (λ x y. cmp (key x) (key y)) (λ x y. agree (key x) (key y)) xs true
      (λ k d l. sym (h k d l)) e)
  sorted_by_key xs false h e = cc e

  pub sorted_by_key_only : (xs : List T) (r : Bool) → IsAllAdjacentAnswer (λ x y b. b ≡ partial_le compare (key x) (key y)) xs r
      → NeverDescends cmp (map key xs) → r ≡ true
  sorted_by_key_only xs true h all = refl
  sorted_by_key_only xs false h all =
      never_descends_sorted (λ x y. compare (key x) (key y)) (λ x y. cmp (key x) (key y)) (λ x y. agree (key x) (key y)) xs false
      (h.0, h.1, λ d. sym (h.2 d)) (along_keys (λ x y. cmp x y ≢ Greater) key xs all)
