-- On a list that ascends the answers about one element are Less, then Equal, then Greater.
use Rattle.std.specs.Prelude.{◌≡◌, ◌≢◌, ℕ, ◌≤◌, List, [], ◌∷◌, cond, map}
use Rattle.std.proofs.Common.{zero, suc, refl, sym, ap, ◌∙◌, arith}
use Rattle.std.specs.List.{AllByRecursion}
use Rattle.std.specs.List.Sorted.{IsNonDecreasingBy}
use Rattle.std.specs.Cmp.{IsTotalOrder, alike_right}
use Rattle.std.specs.Ordering.{ordering_index, is_lt, is_gt}
use Rattle.std.specs.declared.cmp.Ordering.{Ordering}
use Rattle.std.specs.declared.cmp.Ordering.TheVariants.{Less, Equal, Greater}
use Rattle.sgb_split.specs.Split.{neighbours}
use Rattle.sgb_search.specs.Search.{NeverDescends, IsLessEqualGreater, between}
use Rattle.sgb_split.proofs.Lists.AllByRecursion.{all_each}

-- what does not fall from neighbour to neighbour never falls
module _ {T : Type 0} (n : T → ℕ) where
  rises : (xs : List T) → AllByRecursion (λ q. n q.0 ≤ n q.1) (neighbours xs) → IsNonDecreasingBy n xs
  rises [] h i j d le l = absurd (omega arith)
  rises (x ∷ []) h zero zero d le l = omega arith
  rises (x ∷ []) h zero (suc j) d le l = absurd (omega arith)
  rises (x ∷ []) h (suc i) j d le l = absurd (omega arith)
  rises (x ∷ y ∷ ys) h zero zero d le l = omega arith
  rises (x ∷ y ∷ ys) h zero (suc j) d le l = omega (arith, h.0, rises (y ∷ ys) h.1 zero j d (omega arith) (omega arith))
  rises (x ∷ y ∷ ys) h (suc i) zero d le l = absurd (omega arith)
  rises (x ∷ y ∷ ys) h (suc i) (suc j) d le l = rises (y ∷ ys) h.1 i j d (omega arith) (omega arith)

module _ {K : Type 0} (cmp : K → K → Ordering) (o : IsTotalOrder cmp) (b : K) where
  index_most : (r : Ordering) → ordering_index r ≤ 2
  index_most Less = omega arith
  index_most Equal = omega arith
  index_most Greater = omega arith

  step : (x y : K) → cmp x y ≢ Greater → ordering_index (cmp x b) ≤ ordering_index (cmp y b)
  step x y h = by (cmp x y) (cmp y b) refl refl
    where
      by : (r s : Ordering) → cmp x y ≡ r → cmp y b ≡ s → ordering_index (cmp x b) ≤ ordering_index (cmp y b)
      by Less Less e f = omega (arith, ap ordering_index (o.trans x y b e f))
      by Less Equal e f = omega (arith, ap ordering_index (sym (alike_right o y b x f) ∙ e))
      by r Greater e f = omega (arith, ap ordering_index f, index_most (cmp x b))
      by Equal s e f = omega (arith, ap ordering_index (o.congr x y b e))
      by Greater s e f = absurd (h e)

  pub ascends : {T : Type 0} (key : T → K) (xs : List T) → NeverDescends cmp (map key xs) → IsLessEqualGreater (λ x. cmp (key x) b) xs
  ascends key xs h = rises (λ x. ordering_index (cmp (key x) b)) xs (keys xs h)
    where
      keys : (xs : _) → NeverDescends cmp (map key xs)
          → AllByRecursion (λ q. ordering_index (cmp (key q.0) b) ≤ ordering_index (cmp (key q.1) b)) (neighbours xs)
      keys [] h = tt
      keys (x ∷ []) h = tt
      keys (x ∷ y ∷ ys) h = (step (key x) (key y) h.0, keys (y ∷ ys) h.1)

  pub ascends_itself : (xs : List K) → NeverDescends cmp xs → IsLessEqualGreater (λ x. cmp x b) xs
  ascends_itself xs h = rises (λ x. ordering_index (cmp x b)) xs (all_each _ _ (λ q. step q.0 q.1) (neighbours xs) h)

-- and so are the answers about the keys between two others
module _ {K : Type 0} (cmp : K → K → Ordering) (o : IsTotalOrder cmp) (low high : K) where
  second : (r s : Ordering) → ordering_index r ≤ ordering_index s
      → ordering_index (cond (is_gt r) Greater Equal) ≤ ordering_index (cond (is_gt s) Greater Equal)
  second Less Less h = omega arith
  second Less Equal h = omega arith
  second Less Greater h = omega arith
  second Equal Less h = omega arith
  second Equal Equal h = omega arith
  second Equal Greater h = omega arith
  second Greater Less h = absurd (omega (arith, h))
  second Greater Equal h = absurd (omega (arith, h))
  second Greater Greater h = omega arith

  both : (r s t u : Ordering) → ordering_index r ≤ ordering_index t → ordering_index s ≤ ordering_index u
      → ordering_index (cond (is_lt r) Less (cond (is_gt s) Greater Equal))
      ≤ ordering_index (cond (is_lt t) Less (cond (is_gt u) Greater Equal))
  both Less s t u h k = omega arith
  both Equal s Less u h k = absurd (omega (arith, h))
  both Equal s Equal u h k = second s u k
  both Equal s Greater u h k = second s u k
  both Greater s Less u h k = absurd (omega (arith, h))
  both Greater s Equal u h k = absurd (omega (arith, h))
  both Greater s Greater u h k = second s u k

  pub ascends_between : {T : Type 0} (key : T → K) (xs : List T) → NeverDescends cmp (map key xs)
      → IsLessEqualGreater (λ x. between cmp low high (key x)) xs
  ascends_between key xs h = rises (λ x. ordering_index (between cmp low high (key x))) xs (keys xs h)
    where
      keys : (xs : _) → NeverDescends cmp (map key xs)
          → AllByRecursion (λ q. ordering_index (between cmp low high (key q.0)) ≤ ordering_index (between cmp low high (key q.1)))
          (neighbours xs)
      keys [] h = tt
      keys (x ∷ []) h = tt
      keys (x ∷ y ∷ ys) h = (
        both (cmp (key x) low) (cmp (key x) high) (cmp (key y) low) (cmp (key y) high) (step cmp o low (key x) (key y) h.0)
            (step cmp o high (key x) (key y) h.0),
        keys (y ∷ ys) h.1,
      )
