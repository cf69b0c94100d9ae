-- What the judge of bytes of one class answers.
use Rattle.std.specs.Prelude.{◌≡◌, ℕ, Bool}
use Rattle.std.specs.Ordering.{on}
use Rattle.sgb_split.specs.declared.judge.Judge.{Ghosts}
use Rattle.slice_group_simd.specs.declared.byte_classes.ClassJudge.{ClassJudge}

-- by class: the answer is what eq says of the classes of two bytes
abbrev pub by_class : {C K : Type 0} → (ℕ → K) → (K → K → Bool) → Ghosts (ClassJudge C) ℕ
by_class class_of eq = record {
  may_ask = λ _ _. Unit {0};
  answers = λ j q b k. b ≡ on class_of eq q.0 q.1;
}
