-- What is known on both sides of a place.
use Rattle.std.specs.Prelude.{◌≡◌, ℕ, ◌-◌, ◌<◌, ◌≤◌, Bool, true, false, List, ◌++◌, length, ◌⊎◌, Result, Ok, Err}
use Rattle.std.proofs.Common.{refl, sym, ap, subst, arith, ◌∙◌, inl, inr}
use Rattle.std.specs.List.{Contains}
use Rattle.std.proofs.lemmas.List.Elements.{Contains-append_left, Contains-append_right, Contains-push}
use Rattle.std.specs.declared.cmp.Ordering.{Ordering}
use Rattle.std.specs.declared.cmp.Ordering.TheVariants.{Less, Equal, Greater}
use Rattle.sgb_search.specs.Searching.{IsLowEnd, IsHighEnd, Contradicts, TellsBoundary, WasAnswered, Tells, answer_place, as_ordering}
use Rattle.sgb_search.specs.Search.{AnswersAt, IsLocalAnswer}

-- where more is known
module _ (known more : ℕ → Ordering → Type 0) (sub : (i : ℕ) (o : Ordering) → known i o → more i o) where
  pub low_more : (low i : ℕ) → IsLowEnd known low i → IsLowEnd more low i
  low_more low i (inl e) = inl e
  low_more low i (inr p) = inr (p.0, sub (i - 1) Less p.1)

  pub high_more : (high i : ℕ) → IsHighEnd known high i → IsHighEnd more high i
  high_more high i (inl e) = inl e
  high_more high i (inr p) = inr (p.0, sub i Greater p.1)

  contradicts_more : (i : ℕ) → Contradicts known i → Contradicts more i
  contradicts_more i (a, b, x, y, ne) = (a, b, sub i a x, sub i b y, ne)

  pub tells_more : (both : Bool) (low high i : ℕ) → TellsBoundary known both low high i → TellsBoundary more both low high i
  tells_more both low high i t = record {
    low_end = elim t.low_end as (λ _. IsLowEnd more low i ⊎ ((both ≡ true) × Contradicts more i)) [
      | inl a ↦ inl (low_more low i a)
      | inr b ↦ inr (b.0, contradicts_more i b.1)
    ];
    high_end = elim t.high_end as (λ _. IsHighEnd more high i ⊎ ((both ≡ true) × ((low < i) × Contradicts more (i - 1)))) [
      | inl a ↦ inl (high_more high i a)
      | inr b ↦ inr (b.0, (b.1.0, contradicts_more (i - 1) b.1.1))
    ];
  }

-- where each place has one answer, both ends are known
pub one_answer : (known : ℕ → Ordering → Type 0) → ((i : ℕ) → Contradicts known i → ⊥) → (both : Bool) (low high i : ℕ)
    → TellsBoundary known both low high i → IsLowEnd known low i × IsHighEnd known high i
one_answer known never both low high i t = (
  elim t.low_end as (λ _. IsLowEnd known low i) [ inl a ↦ a | inr b ↦ absurd (never i b.1) ],
  elim t.high_end as (λ _. IsHighEnd known high i) [ inl a ↦ a | inr b ↦ absurd (never (i - 1) b.1.1) ],
)

pub answers_once : {T : Type 0} (ord : T → Ordering) (xs : List T) (i : ℕ) → Contradicts (AnswersAt ord xs) i → ⊥
answers_once ord xs i (a, b, x, y, ne) = let same : x.0 ≡ y.0 = cc (x.1, y.1) in ne (sym x.2 ∙ ap ord same ∙ y.2)

-- an answer that tells a side is never Equal
pub never_equal : (b : Bool) → as_ordering b ≡ Equal → ⊥
never_equal true e = cc
never_equal false e = cc

pub side_before : (b : Bool) → as_ordering b ≡ Less → b ≡ true
side_before true e = refl
side_before false e = cc

pub side_after : (b : Bool) → as_ordering b ≡ Greater → b ≡ false
side_after true e = cc
side_after false e = refl

module _ {A : Type 0} (reads : A → Ordering) where
  -- with more answers
  pub answered_left : (qs rs : List (ℕ × A)) (i : ℕ) (o : Ordering) → WasAnswered reads qs i o → WasAnswered reads (qs ++ rs) i o
  answered_left qs rs i o w = (w.0, Contains-append_left qs rs (i, w.0) w.1, w.2)

  pub answered_right : (qs rs : List (ℕ × A)) (i : ℕ) (o : Ordering) → WasAnswered reads rs i o → WasAnswered reads (qs ++ rs) i o
  answered_right qs rs i o w = (w.0, Contains-append_right qs rs (i, w.0) w.1, w.2)

  module _ (qs : List (ℕ × A)) (both : Bool) (low high : ℕ) where
    pub place_within : (r : Result ℕ ℕ) → Tells reads qs both low high r → answer_place r ≤ high
    place_within (Ok i) t = omega (arith, t.0.1)
    place_within (Err i) t = t.1

    -- and gives `Err` where no answer is Equal
    pub ends_at : ((a : A) → reads a ≡ Equal → ⊥) → (r : Result ℕ ℕ) → Tells reads qs both low high r → r ≡ Err (answer_place r)
    ends_at never (Ok i) t = absurd (never t.1.1 t.1.3)
    ends_at never (Err i) t = refl

  -- what a search of a whole list tells, where the answers are those of ord
  pub tells_local : {T : Type 0} (ord : T → Ordering) (xs : List T) (qs : List (ℕ × A)) (both : Bool)
      → ((i : ℕ) (o : Ordering) → WasAnswered reads qs i o → AnswersAt ord xs i o) → (r : Result ℕ ℕ)
      → Tells reads qs both 0 (length xs) r → IsLocalAnswer ord xs r
  tells_local ord xs qs both known (Ok i) t =
      known i Equal (t.1.1, subst (λ l. Contains l (i, t.1.1)) (sym t.1.2) (Contains-push t.1.0 (i, t.1.1)), t.1.3)
  tells_local ord xs qs both known (Err i) t =
      one_answer (AnswersAt ord xs) (answers_once ord xs) both 0 (length xs) i
      (tells_more (WasAnswered reads qs) (AnswersAt ord xs) known both 0 (length xs) i t.2)
