-- The judge by equality may always be asked, answers what equality says, and counts.
use Rattle.std.specs.Prelude.{◌≡◌, ◌+◌, Bool, List, [], ◌∷◌, ⊤, length}
use Rattle.std.proofs.Common.{ap, arith}
use Rattle.sgb_split.specs.Judges.{IsRun, Computes, by_equality}
use Rattle.sgb_split.specs.Split.{on_pairs}
use Rattle.sgb_split.specs.declared.judge.EqualityJudge.{EqualityJudge}
use Rattle.sgb_split.proofs.Questions.Runs.{answers_by}

module _ {T : Type 0} (eq : T → T → Bool) where
  pub equality_settled : (allowed : T × T → Type 0) (j : EqualityJudge)
      → Computes (by_equality eq).may_ask (by_equality eq).answers allowed (on_pairs eq) j
  equality_settled allowed j = answers_by _ _ allowed (on_pairs eq) (λ _. ⊤) (λ s q b k i c. (c.0, tt)) j tt

  pub equality_counts : (j : EqualityJudge) (qs : List ((T × T) × Bool)) (k : EqualityJudge)
      → IsRun (by_equality eq).may_ask (by_equality eq).answers j qs k → k.asked ≡ j.asked + length qs
  equality_counts j [] k run = omega (arith, ap (λ i. i.asked) run)
  equality_counts j (q ∷ qs) k run = omega (arith, run.1.1.1, equality_counts run.1.0 qs k run.1.2)
