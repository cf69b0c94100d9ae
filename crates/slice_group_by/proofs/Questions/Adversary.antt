-- What a plan of questions costs: an adversary.
use Rattle.std.specs.Prelude.{◌≡◌, ◌≢◌, ℕ, ◌+◌, ◌-◌, ◌<◌, ◌≤◌, ◌⊎◌, Bool, cond}
use Rattle.std.proofs.Common.{◌*◌, refl, sym, ap, arith, ◌∙◌, inl, inr}
use borrow.Author.Tests.{lt-ltb, le-ltb}
use Rattle.std.proofs.lemmas.Bool.{cases_lt}
use Rattle.slice_group_by.specs.declared.laws.plans.Plan.{Plan}
use Rattle.slice_group_by.specs.declared.laws.plans.Plan.TheVariants.{Answer, Ask'}
use Rattle.sgb_search.specs.Searching.{digits}
use Rattle.sgb_search.proofs.Searches.Digits.{digits_double, digits_le_self}
use Rattle.slice_group_by.specs.Plans.{run, IsRight, IsRefuted}

-- after k questions the plan goes on as current, at each length from low up to high, both among them
pub record Narrowed (plan : Plan) (n low high : ℕ) (current : Plan) (k : ℕ) : Type 0 where
  pub order : (1 ≤ low) × (low ≤ high) × (high ≤ n)
  pub answers : (l : ℕ) → low ≤ l → l ≤ high → (run plan l).0 ≡ (run current l).0
  pub counts : (l : ℕ) → low ≤ l → l ≤ high → (run plan l).1 ≡ (run current l).1 + k
  pub many : digits (n - 1) ≤ digits (high - low) + k

module _ (q : ℕ) (p : _) (more : Plan) (r : _) (less : Plan) (current : Plan) (is : current ≡ Ask' q p more r less) where
  runs_more : (l : ℕ) → q < l → ((run current l).0 ≡ (run more l).0) × ((run current l).1 ≡ (run more l).1 + 1)
  runs_more l h =
      rw is (
        ap (λ (b : Bool). cond b (run more l).0 (run less l).0) (lt-ltb q l h),
        ap (λ (b : Bool). cond b (run more l).1 (run less l).1 + 1) (lt-ltb q l h),
      )

  runs_less : (l : ℕ) → l ≤ q → ((run current l).0 ≡ (run less l).0) × ((run current l).1 ≡ (run less l).1 + 1)
  runs_less l h =
      rw is (
        ap (λ (b : Bool). cond b (run more l).0 (run less l).0) (le-ltb q l h),
        ap (λ (b : Bool). cond b (run more l).1 (run less l).1 + 1) (le-ltb q l h),
      )

  module _ (plan : Plan) (n low high k : ℕ) (w : Narrowed plan n low high current k) (next : Plan) where
    pub to_more : next ≡ more → (low' : ℕ) → low ≤ low' → low' ≤ high → q < low' → high - low ≤ 2 * (high - low') + 1
        → (j : ℕ) × Narrowed plan n low' high next j
    to_more e low' a b c d = (
      k + 1,
      record {
        order = (omega (arith, w.order), b, w.order.2);
        answers = λ l x y. w.answers l (omega arith) y ∙ (runs_more l (omega arith)).0 ∙ ap (λ (v : Plan). (run v l).0) (sym e);
        counts =
            λ l x y. let s = runs_more l (omega arith) in let same : (run next l).1 ≡ (run more l).1 = ap (λ (v : Plan). (run v l).1) e in
            omega (arith, w.counts l (omega arith) y, s.1, same);
        many = omega (arith, w.many, digits_double (high - low) (high - low') d);
      },
    )

    pub to_less : next ≡ less → (high' : ℕ) → low ≤ high' → high' ≤ high → high' ≤ q → high - low ≤ 2 * (high' - low) + 1
        → (j : ℕ) × Narrowed plan n low high' next j
    to_less e high' a b c d = (
      k + 1,
      record {
        order = (w.order.0, a, omega (arith, w.order));
        answers = λ l x y. w.answers l x (omega arith) ∙ (runs_less l (omega arith)).0 ∙ ap (λ (v : Plan). (run v l).0) (sym e);
        counts =
            λ l x y. let s = runs_less l (omega arith) in let same : (run next l).1 ≡ (run less l).1 = ap (λ (v : Plan). (run v l).1) e in
            omega (arith, w.counts l x (omega arith), s.1, same);
        many = omega (arith, w.many, digits_double (high - low) (high' - low) d);
      },
    )

module _ (plan : Plan) (n low high k a : ℕ) (current : Plan) (is : current ≡ Answer a) (w : Narrowed plan n low high current k) where
  pub at_high : a ≡ low → IsRefuted plan n high
  at_high e = by (cases_lt low high)
    where
      answer : (run plan high).0 ≡ a
      answer = w.answers high (omega (arith, w.order)) (omega arith) ∙ ap (λ (v : Plan). (run v high).0) is

      count : (run plan high).1 ≡ k
      count =
          let none : (run current high).1 ≡ 0 = ap (λ (v : Plan). (run v high).1) is in
          omega (arith, w.counts high (omega (arith, w.order)) (omega arith), none)

      by : (low < high) ⊎ (high ≤ low) → IsRefuted plan n high
      by (inl h) = inl (λ f. omega (arith, answer, f))
      by (inr h) = inr (omega (arith, w.many, count, digits_le_self (high - low)))

-- among the lengths from low up to high: one at which the plan is wrong, or asks no less than halving may
abbrev pub Worst : Plan → ℕ → ℕ → Type 0
Worst plan low high = (l : ℕ) × (low ≤ l) × (l ≤ high) × (((run plan l).0 ≢ l) ⊎ (digits (high - low) ≤ (run plan l).1))

worst_answer : (a low high : ℕ) → low ≤ high → Worst (Answer a) low high
worst_answer a low high h = by (cases_lt low high) (cases_lt a high)
  where
    by : (low < high) ⊎ (high ≤ low) → (a < high) ⊎ (high ≤ a) → Worst (Answer a) low high
    by (inl k) (inl m) = (high, h, omega arith, inl (λ e. omega (arith, e)))
    by (inl k) (inr m) = (low, omega arith, h, inl (λ e. omega (arith, e)))
    by (inr k) m = (low, omega arith, h, inr (omega (arith, digits_le_self (high - low))))

-- the larger part of the lengths: above q, or up to q
LargerPart : ℕ → ℕ → ℕ → Type 0
LargerPart q low high = ((low′ : ℕ) × (low ≤ low′) × (low′ ≤ high) × (q < low′) × (high - low ≤ 2 * (high - low′) + 1))
    ⊎ ((high′ : ℕ) × (low ≤ high′) × (high′ ≤ high) × (high′ ≤ q) × (high - low ≤ 2 * (high′ - low) + 1))

larger_part : (q low high : ℕ) → low ≤ high → LargerPart q low high
unfolding LargerPart
larger_part q low high h = by (cases_lt q low) (cases_lt q high) (cases_lt (q - low) (high - q))
  where
    by : (q < low) ⊎ (low ≤ q) → (q < high) ⊎ (high ≤ q) → (q - low < high - q) ⊎ (high - q ≤ q - low) → LargerPart q low high
    by (inl a) b c = inl (low, omega arith, h, a, omega arith)
    by (inr a) (inr b) c = inr (high, h, omega arith, b, omega arith)
    by (inr a) (inl b) (inl c) = inl (q + 1, omega arith, omega arith, omega arith, omega arith)
    by (inr a) (inl b) (inr c) = inr (q, a, omega arith, omega arith, omega arith)

module _ (q : ℕ) (p : _) (more : Plan) (r : _) (less : Plan) (low high : ℕ) where
  worst_more : (low′ : ℕ) → low ≤ low′ → q < low′ → high - low ≤ 2 * (high - low′) + 1 → Worst more low′ high
      → Worst (Ask' q p more r less) low high
  worst_more low′ a c d w = (w.0, omega (arith, w.1), w.2, by w.3)
    where
      same : ((run (Ask' q p more r less) w.0).0 ≡ (run more w.0).0) × ((run (Ask' q p more r less) w.0).1 ≡ (run more w.0).1 + 1)
      same = runs_more q p more r less (Ask' q p more r less) refl w.0 (omega (arith, w.1))

      by : ((run more w.0).0 ≢ w.0) ⊎ (digits (high - low′) ≤ (run more w.0).1)
          → ((run (Ask' q p more r less) w.0).0 ≢ w.0) ⊎ (digits (high - low) ≤ (run (Ask' q p more r less) w.0).1)
      by (inl f) = inl (λ e. f (sym same.0 ∙ e))
      by (inr m) = inr (omega (arith, m, same.1, digits_double (high - low) (high - low′) d))

  worst_less : (high′ : ℕ) → high′ ≤ high → high′ ≤ q → high - low ≤ 2 * (high′ - low) + 1 → Worst less low high′
      → Worst (Ask' q p more r less) low high
  worst_less high′ b c d w = (w.0, w.1, omega (arith, w.2), by w.3)
    where
      same : ((run (Ask' q p more r less) w.0).0 ≡ (run less w.0).0) × ((run (Ask' q p more r less) w.0).1 ≡ (run less w.0).1 + 1)
      same = runs_less q p more r less (Ask' q p more r less) refl w.0 (omega (arith, w.2))

      by : ((run less w.0).0 ≢ w.0) ⊎ (digits (high′ - low) ≤ (run less w.0).1)
          → ((run (Ask' q p more r less) w.0).0 ≢ w.0) ⊎ (digits (high - low) ≤ (run (Ask' q p more r less) w.0).1)
      by (inl f) = inl (λ e. f (sym same.0 ∙ e))
      by (inr m) = inr (omega (arith, m, same.1, digits_double (high - low) (high′ - low) d))

pub worst : (plan : Plan) (low high : ℕ) → low ≤ high → Worst plan low high
unfolding LargerPart
worst (Answer a) low high h = worst_answer a low high h
worst (Ask' q p more r less) low high h = elim (larger_part q low high h) as (λ _. Worst (Ask' q p more r less) low high) [
  | inl c ↦ worst_more q p more r less low high c.0 c.1 c.3 c.4 (worst more c.0 high c.2)
  | inr c ↦ worst_less q p more r less low high c.0 c.2 c.3 c.4 (worst less low c.0 c.1)
]

-- so a plan that is right everywhere asks no less somewhere
pub right_plan_asks : (plan : Plan) (n : ℕ) → 0 < n → IsRight plan 1 n → (l : ℕ) × (1 ≤ l) × (l ≤ n) × (digits (n - 1) ≤ (run plan l).1)
right_plan_asks plan n h right = let w = worst plan 1 n (omega arith) in (w.0, w.1, w.2, by w.0 w.1 w.2 w.3)
  where
    by : (l : ℕ) → 1 ≤ l → l ≤ n → ((run plan l).0 ≢ l) ⊎ (digits (n - 1) ≤ (run plan l).1) → digits (n - 1) ≤ (run plan l).1
    by l a b (inl f) = absurd (f (right l a b))
    by l a b (inr m) = m
