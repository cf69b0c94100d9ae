-- What stands before the place that parts a list, and from it on, are filters.
use Rattle.std.specs.Prelude.{◌≡◌, ℕ, ◌-◌, Bool, true, false, not, List, [], ◌∷◌, ◌++◌, length, take, drop}
use Rattle.std.proofs.Common.{refl, sym, ap, ◌∙◌, arith, suc}
use Rattle.std.specs.List.{count_by, filter, slice_get}
use Rattle.std.specs.List.Sorted.{IsPartitionedBy}
use Rattle.std.proofs.Math.Seq.{take-append_seam, drop-append_seam}
use Rattle.std.proofs.lemmas.Bool.{false_from_ne_true, true≢false}
use Rattle.std.proofs.lemmas.List.Sums.{length-filter}
use Rattle.sgb_split.proofs.Lists.Filters.{keeps_none}
use Rattle.sgb_split.specs.Split.{last}
use native.Mathlib.Numerals.{unary_clauses}

-- the method `last` gives the last element
pub last_at : {X : Type 0} (xs : List X) → slice_get xs (length xs - 1) ≡ last xs
last_at [] = refl
last_at (x ∷ []) = refl
last_at (x ∷ y ∷ ys) = simp unary_clauses (simp unary_clauses at (last_at (y ∷ ys)))

module _ {T : Type 0} (p : T → Bool) where
  -- it parts what stands behind the first element too, and none passes there where that one does not
  behind_first : (x : T) (xs : List T) → IsPartitionedBy p (x ∷ xs) → IsPartitionedBy p xs
  behind_first x xs h i j d l k = h (suc i) (suc j) d (omega (arith, l)) (omega (arith, k))

  none_behind : (x : T) (xs : List T) → IsPartitionedBy p (x ∷ xs) → p x ≡ false → filter p xs ≡ []
  none_behind x xs h e =
      keeps_none p xs (λ y c. false_from_ne_true (p y) (λ passes. true≢false
      (sym (h 0 (suc c.0) y (omega arith) (omega (arith, c.1)) (ap p c.2 ∙ passes)) ∙ e)))

  parted : (xs : List T) → IsPartitionedBy p xs → xs ≡ filter p xs ++ filter (λ x. not (p x)) xs
  parted [] h = refl
  parted (x ∷ xs) h = by (p x) refl (parted xs (behind_first x xs h))
    where
      by : (b : Bool) → p x ≡ b → xs ≡ filter p xs ++ filter (λ y. not (p y)) xs
          → x ∷ xs ≡ filter p (x ∷ xs) ++ filter (λ y. not (p y)) (x ∷ xs)
      by true e more = rw e (ap (λ l. x ∷ l) more)
      by false e more =
          let none = none_behind x xs h e in
          rw (e, none) (ap (λ l. x ∷ l) (more ∙ ap (λ l. l ++ filter (λ y. not (p y)) xs) none))

  module _ (xs : List T) (place : ℕ) (h : IsPartitionedBy p xs) (is : place ≡ count_by p xs) where
    pub before : take place xs ≡ filter p xs
    before =
        (λ i. take ((is ∙ sym (length-filter p xs)) i) (parted xs h i)) ∙ take-append_seam (filter p xs) (filter (λ y. not (p y)) xs)

    pub behind : drop place xs ≡ filter (λ x. not (p x)) xs
    behind =
        (λ i. drop ((is ∙ sym (length-filter p xs)) i) (parted xs h i)) ∙ drop-append_seam (filter p xs) (filter (λ y. not (p y)) xs)

    pub last_before : slice_get (take place xs) (length (take place xs) - 1) ≡ last (filter p xs)
    last_before = last_at (take place xs) ∙ ap last before
