-- What `max_by_key` picks of items that show a list: one of the greatest, where its closure computes a number of what an item shows.
use Rattle.std.proofs.Common.{◌≡◌, ℕ, ◌<◌, ◌≤◌, List, [], ◌∷◌, ◌⊎◌, Option, None, Some, MatchOption, map, sym, ap, ◌∙◌, subst, arith}
use Rattle.std.proofs.Common.{inl, inr}
use Rattle.std.specs.Borrow.{Bor}
use Rattle.std.specs.Fn.{Mut, CalledAt}
use Rattle.std.specs.List.{AllByRecursion, Contains, FoldsTo}
use Rattle.std.specs.Iterator.{KeyTurn, PicksMaxByKey}
use Rattle.std.specs.Ordering.{nat_cmp, max_by_ordering, MatchOrdering}
use Rattle.std.specs.declared.cmp.Ordering.{Ordering}
use Rattle.std.specs.declared.cmp.Ordering.TheVariants.{Less, Equal, Greater}
use Rattle.std.proofs.lemmas.Cmp.{ranked}
use Rattle.std.proofs.lemmas.Iterator.{YieldsList, items_from_drains}
use Rattle.sgb_split.proofs.Lists.Contained.{contains_cases, contains_head, contains_tail}

module _ {A B F : Type 0} (shows : A → B) (g : Mut F (Bor A × Unit {0}) ℕ) (size : B → ℕ) (f : F) (computes : (x : A) (n : ℕ) (h : F) → CalledAt g f x n h → (h ≡ f) × (n ≡ size (shows x))) where
  abbrev size_of : A → ℕ
  size_of x = size (shows x)

  -- the closure as it was, and the size of the item that is kept
  abbrev Kept : (F × ℕ) × A → Type 0
  Kept p = (p.0.0 ≡ f) × (p.0.1 ≡ size_of p.1)

  abbrev turn : (F × ℕ) × A → A → (F × ℕ) × A → Type 0
  turn = KeyTurn max_by_ordering max_by_ordering g nat_cmp

  -- of the item that is kept and the next, the greater is kept
  abbrev KeepsGreater : (F × ℕ) × A → A → (F × ℕ) × A → Type 0
  KeepsGreater p x q = Kept q × ((q.1 ≡ p.1) ⊎ (q.1 ≡ x)) × (size_of p.1 ≤ size_of q.1) × (size_of x ≤ size_of q.1)

  keeps : (p : (F × ℕ) × A) (x : A) (q : (F × ℕ) × A) → turn p x q → Kept p → KeepsGreater p x q
  keeps p x q h kept =
      by h.1 (ranked p.0.1 h.0 h.1 (sym h.3)) h.4 h.5 (computes x h.0 q.0.0 (subst (λ v. CalledAt g v x h.0 q.0.0) kept.0 h.2))
    where
      by : (o : Ordering) → MatchOrdering o (p.0.1 < h.0) (p.0.1 ≡ h.0) (h.0 < p.0.1) → q.0.1 ≡ max_by_ordering o p.0.1 h.0
          → q.1 ≡ max_by_ordering o p.1 x → (q.0.0 ≡ f) × (h.0 ≡ size_of x) → KeepsGreater p x q
      by Less r n i called =
          ((called.0, n ∙ called.1 ∙ sym (ap size_of i)), inr i, omega (arith, r, kept.1, called.1, ap size_of i), omega (arith, ap size_of i))
      by Equal r n i called =
          ((called.0, n ∙ called.1 ∙ sym (ap size_of i)), inr i, omega (arith, r, kept.1, called.1, ap size_of i), omega (arith, ap size_of i))
      by Greater r n i called =
          ((called.0, n ∙ kept.1 ∙ sym (ap size_of i)), inl i, omega (arith, ap size_of i), omega (arith, r, kept.1, called.1, ap size_of i))

  -- what is kept of an item and those after it
  picked : (xs : List A) (p q : (F × ℕ) × A) → FoldsTo turn p xs q → Kept p
      → Contains (map shows (p.1 ∷ xs)) (shows q.1) × (size_of p.1 ≤ size_of q.1) × AllByRecursion (λ y. size y ≤ size (shows q.1)) (map shows xs)
  picked [] p q c kept =
      let same : p.1 ≡ q.1 = ap (λ r. r.1) c in
      (subst (λ x. Contains (shows p.1 ∷ []) (shows x)) same (contains_head (shows p.1) []), omega (arith, ap size_of same), tt)
  picked (x ∷ xs) p q c kept =
      let first = keeps p x c.0 c.1 kept in
      let rest = picked xs c.0 q c.2 first.0 in (
        among first.1 rest.0,
        omega (arith, first.2, rest.1),
        (omega (arith, first.3, rest.1), rest.2),
      )
    where
      among : (c.0.1 ≡ p.1) ⊎ (c.0.1 ≡ x) → Contains (map shows (c.0.1 ∷ xs)) (shows q.1)
          → Contains (map shows (p.1 ∷ x ∷ xs)) (shows q.1)
      among (inl e) h = either (contains_cases (shows c.0.1) (map shows xs) (shows q.1) h)
        where
          either : (shows c.0.1 ≡ shows q.1) ⊎ Contains (map shows xs) (shows q.1) → Contains (map shows (p.1 ∷ x ∷ xs)) (shows q.1)
          either (inl k) =
              subst (Contains (map shows (p.1 ∷ x ∷ xs))) (sym (ap shows e) ∙ k) (contains_head (shows p.1) (map shows (x ∷ xs)))
          either (inr k) = contains_tail (shows p.1) (map shows (x ∷ xs)) (shows q.1) (contains_tail (shows x) (map shows xs) (shows q.1) k)
      among (inr e) h =
          contains_tail (shows p.1) (map shows (x ∷ xs)) (shows q.1) (subst (λ y. Contains (map shows (y ∷ xs)) (shows q.1)) e h)

  pub greatest_from_max_by_key : {S : Type 0} {steps : S → Option A → S → Type 0} {s : S} {all : List B} (r : Option A)
      → PicksMaxByKey steps g nat_cmp s f r → YieldsList steps shows s all
      → MatchOption r (all ≡ []) (λ x. Contains all (shows x) × AllByRecursion (λ y. size y ≤ size (shows x)) all)
  greatest_from_max_by_key {steps = steps} None h seen = sym (items_from_drains {steps = steps} [] (h.1.0, h.1.1, λ _. (h.0, h.1.2)) seen)
  greatest_from_max_by_key {steps = steps} (Some x) h seen =
      let drains = h.5 in
      let kept = picked h.1 ((h.3, h.2), h.0) (h.4, x) h.7 (computes h.0 h.2 h.3 h.6) in
      subst (λ ys. Contains ys (shows x) × AllByRecursion (λ y. size y ≤ size (shows x)) ys)
      (items_from_drains {steps = steps} (h.0 ∷ h.1) (drains.1.0, drains.1.1, λ _. (drains.0, drains.1.2)) seen)
      (kept.0, (kept.1, kept.2))
