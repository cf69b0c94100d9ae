-- A list at a partition point: how many answers are Less, and what holds of each element before the point and of each from it on.
use Rattle.std.specs.Prelude.{◌≡◌, ℕ, ◌≤◌, List, [], ◌∷◌, length, cond, take, drop}
use Rattle.std.proofs.Common.{zero, suc, ap, arith}
use Rattle.std.specs.List.{count_by, AllByRecursion, AllWithin}
use Rattle.std.specs.List.Sorted.{IsPartitionPoint}
use Rattle.std.proofs.lemmas.List.Sums.{sum_by-cons}
use Rattle.std.specs.declared.cmp.Ordering.{Ordering}
use Rattle.std.specs.declared.cmp.Ordering.TheVariants.{Less, Greater}
use Rattle.std.specs.Ordering.{is_lt}

module _ {T : Type 0} (ord : T → Ordering) where
  pub less_count : (xs : List T) (i : ℕ) → i ≤ length xs → IsPartitionPoint (λ y. ord y ≡ Less) (λ y. ord y ≡ Greater) xs i
      → i ≡ count_by (λ y. is_lt (ord y)) xs
  less_count [] i h p = omega arith
  less_count (x ∷ xs) zero h p =
      let here : ◌≡◌ {A = ℕ} (cond (is_lt (ord x)) 1 0) 0 = ap (λ (o : Ordering). cond (is_lt o) 1 0)
      (p.1 0 x (omega arith) (omega arith)) in
      omega (
        arith,
        here,
        sum_by-cons (λ y. cond (is_lt (ord y)) 1 0) x xs,
        less_count xs zero (omega arith) (λ k d a b. absurd (omega arith), λ k d a b. p.1 (suc k) d (omega arith) (omega arith)),
      )
  less_count (x ∷ xs) (suc i) h p =
      let here : ◌≡◌ {A = ℕ} (cond (is_lt (ord x)) 1 0) 1 = ap (λ (o : Ordering). cond (is_lt o) 1 0)
      (p.0 0 x (omega arith) (omega arith)) in
      omega (
        arith,
        here,
        sum_by-cons (λ y. cond (is_lt (ord y)) 1 0) x xs,
        less_count xs i (omega arith)
            (λ k d a b. p.0 (suc k) d (omega arith) (omega arith), λ k d a b. p.1 (suc k) d (omega arith) (omega arith)),
      )

module _ {X : Type 0} (P : X → Type 0) where
  pub taken : (xs : List X) (i : ℕ) → AllWithin P xs 0 i → AllByRecursion P (take i xs)
  taken xs zero h = tt
  taken [] (suc i) h = tt
  taken (x ∷ xs) (suc i) h = (
    h 0 x (omega arith) (omega arith),
    taken xs i (λ k d a b. h (suc k) d (omega arith) (omega (arith, b))),
  )

  pub dropped : (xs : List X) (i : ℕ) → AllWithin P xs i (length xs) → AllByRecursion P (drop i xs)
  dropped [] zero h = tt
  dropped [] (suc i) h = tt
  dropped (x ∷ xs) zero h = (
    h 0 x (omega arith) (omega arith),
    dropped xs zero (λ k d a b. h (suc k) d (omega arith) (omega (arith, b))),
  )
  dropped (x ∷ xs) (suc i) h = dropped xs i (λ k d a b. h (suc k) d (omega (arith, a)) (omega (arith, b)))
