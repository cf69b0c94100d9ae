-- Facts of each element of a list, and of neighbours.
use Rattle.std.proofs.Common.{◌≡◌, ◌≢◌, ◌+◌, Bool, false, List, [], ◌∷◌, ◌++◌, refl, subst, arith, suc, zero, Some}
use Rattle.std.proofs.lemmas.List.Elements.{Contains-get_or, recursion_from_All}
use Rattle.std.specs.List.{AllByRecursion, Contains}
use Rattle.std.specs.List.Sorted.{IsSortedBy, IsStrictlySortedBy}
use Rattle.std.specs.declared.cmp.Ordering.{Ordering}
use Rattle.std.specs.declared.cmp.Ordering.TheVariants.{Less}
use Rattle.slice_group_by.specs.Split.{first, last, neighbours}

module _ {X : Type 0} (P : X → Type 0) where
  pub all_append : (xs ys : List X) → AllByRecursion P xs → AllByRecursion P ys → AllByRecursion P (xs ++ ys)
  all_append [] ys h k = k
  all_append (x ∷ xs) ys h k = (h.0, all_append xs ys h.1 k)

  pub all_of_first : (xs ys : List X) → AllByRecursion P (xs ++ ys) → AllByRecursion P xs
  all_of_first [] ys h = tt
  all_of_first (x ∷ xs) ys h = (h.0, all_of_first xs ys h.1)

  pub all_of_rest : (xs ys : List X) → AllByRecursion P (xs ++ ys) → AllByRecursion P ys
  all_of_rest [] ys h = h
  all_of_rest (x ∷ xs) ys h = all_of_rest xs ys h.1

  pub all_when : (xs : List X) → ((x : X) → Contains xs x → P x) → AllByRecursion P xs
  all_when xs h = recursion_from_All P xs (λ k d l. h _ (Contains-get_or xs k d l))

  pub all_last : (x : X) (xs : List X) (z : X) → AllByRecursion P (x ∷ xs) → last (x ∷ xs) ≡ Some z → P z
  all_last x [] z h e = let same : x ≡ z = cc in subst P same h.0
  all_last x (y ∷ ys) z h e = all_last y ys z h.1 e

  pub all_where : (Q R : X → Type 0) → ((x : X) → P x → Q x → R x) → (xs : List X) → AllByRecursion P xs → AllByRecursion Q xs
      → AllByRecursion R xs
  all_where Q R f [] h k = tt
  all_where Q R f (x ∷ xs) h k = (f x h.0 k.0, all_where Q R f xs h.1 k.1)

all_each : {X : Type 0} (P Q : X → Type 0) → ((x : X) → P x → Q x) → (xs : List X) → AllByRecursion P xs → AllByRecursion Q xs
all_each P Q f xs h = all_where P P Q (λ x p q. f x p) xs h h

pub some_behind : {X : Type 0} (xs ys : List X) → xs ≢ [] → xs ++ ys ≢ []
some_behind [] ys some e = some refl
some_behind (x ∷ xs) ys some e = cc

-- what is so of all neighbours
module _ {X : Type 0} (Q : X × X → Type 0) where
  abbrev pub AllBeside : List X → Type 0
  AllBeside xs = AllByRecursion Q (neighbours xs)

  pub beside_joined : (x : X) (xs ys : List X) → AllBeside (x ∷ xs) → AllBeside ys
      → ((a b : X) → last (x ∷ xs) ≡ Some a → first ys ≡ Some b → Q (a, b)) → AllBeside ((x ∷ xs) ++ ys)
  beside_joined x [] [] h k across = tt
  beside_joined x [] (y ∷ ys) h k across = (across x y refl refl, k)
  beside_joined x (x' ∷ xs) ys h k across = (h.0, beside_joined x' xs ys h.1 k across)

  -- the pair at the seam, and what is behind it
  pub beside_seam : (x : X) (xs : List X) (y : X) (ys : List X) → AllBeside ((x ∷ xs) ++ (y ∷ ys))
      → (z : X) × (last (x ∷ xs) ≡ Some z) × Q (z, y) × AllBeside (y ∷ ys)
  beside_seam x [] y ys h = (x, refl, h.0, h.1)
  beside_seam x (x' ∷ xs) y ys h = beside_seam x' xs y ys h.1

-- between what `sort_by` says by places, and the same of neighbours
module _ {X : Type 0} (lt : X → X → Bool) where
  abbrev pub Rises : X × X → Type 0
  Rises q = lt q.1 q.0 ≡ false

  pub sorted_from : (xs : List X) → AllBeside Rises xs → IsSortedBy lt xs
  sorted_from [] h k d low l = absurd (omega (arith, l))
  sorted_from (x ∷ []) h k d low l = absurd (omega (arith, l))
  sorted_from (x ∷ y ∷ ys) h zero d low l = h.0
  sorted_from (x ∷ y ∷ ys) h (suc k) d low l =
      let e : suc k + 1 ≡ suc (k + 1) = omega arith in
      rw e (sorted_from (y ∷ ys) h.1 k d (omega arith) (omega (arith, l)))

  pub beside_from : (xs : List X) → IsSortedBy lt xs → AllBeside Rises xs
  beside_from [] h = tt
  beside_from (x ∷ []) h = tt
  beside_from (x ∷ y ∷ ys) h = (
    h 0 x (omega arith) (omega arith),
    beside_from (y ∷ ys) (λ k d low l.
        let e : suc k + 1 ≡ suc (k + 1) = omega arith in
        rw e at (h (suc k) d (omega arith) (omega (arith, l)))),
  )

-- lists that ascend
module _ {X : Type 0} (cmp : X → X → Ordering) where
  abbrev pub Below : X → List X → Type 0
  Below x ys = AllByRecursion (λ y. cmp x y ≡ Less) ys

  pub ascend_joined : (xs ys : List X) → IsStrictlySortedBy cmp xs → IsStrictlySortedBy cmp ys
      → AllByRecursion (λ x. AllByRecursion (λ y. cmp x y ≡ Less) ys) xs → IsStrictlySortedBy cmp (xs ++ ys)
  unfolding IsStrictlySortedBy
  ascend_joined [] ys h k across = k
  ascend_joined (x ∷ xs) ys h k across = (all_append (λ y. cmp x y ≡ Less) xs ys h.0 across.0, ascend_joined xs ys h.1 k across.1)

  pub ascend_apart : (xs ys : List X) → IsStrictlySortedBy cmp (xs ++ ys)
      → IsStrictlySortedBy cmp xs × IsStrictlySortedBy cmp ys × AllByRecursion (λ x. Below x ys) xs
  unfolding IsStrictlySortedBy
  ascend_apart [] ys h = (tt, h, tt)
  ascend_apart (x ∷ xs) ys h =
      let (front, rest, across) = ascend_apart xs ys h.1 in
      let P = λ (y : X). cmp x y ≡ Less in
      ((all_of_first P xs ys h.0, front), rest, (all_of_rest P xs ys h.0, across))

  pub ascend_from : ((x y z : X) → cmp x y ≡ Less → cmp y z ≡ Less → cmp x z ≡ Less) → (xs : List X)
      → AllBeside (λ q. cmp q.0 q.1 ≡ Less) xs → IsStrictlySortedBy cmp xs
  unfolding IsStrictlySortedBy
  ascend_from trans [] h = tt
  ascend_from trans (x ∷ []) h = (tt, tt)
  ascend_from trans (x ∷ y ∷ ys) h =
      let (above, rest) = ascend_from trans (y ∷ ys) h.1 in (
        (h.0, all_each (λ z. cmp y z ≡ Less) (λ z. cmp x z ≡ Less) (λ z. trans x y z h.0) ys above),
        (above, rest),
      )

  pub beside_ascends : (xs : List X) → IsStrictlySortedBy cmp xs → AllBeside (λ q. cmp q.0 q.1 ≡ Less) xs
  unfolding IsStrictlySortedBy
  beside_ascends [] h = tt
  beside_ascends (x ∷ []) h = tt
  beside_ascends (x ∷ y ∷ ys) h = (h.0.0, beside_ascends (y ∷ ys) h.1)
