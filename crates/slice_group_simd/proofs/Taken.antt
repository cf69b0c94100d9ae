-- A group cut off an end of what remains is what a linear call gives.
use Rattle.std.proofs.Common.{◌≡◌, ℕ, ◌+◌, ◌-◌, ◌≤◌, Bool, List, ◌++◌, length, take, drop, sym, ap, ◌∙◌, subst, arith}
use Rattle.std.specs.Prelude.{slice_range}
use Rattle.std.proofs.lemmas.List.{drop-drop}
use Rattle.std.proofs.Math.Seq.{take-add}
use Rattle.sgb_split.specs.declared.end.End.TheVariants.{Front, Back}
use Rattle.sgb_split.specs.declared.judge.Judge.{Ghosts}
use Rattle.sgb_split.specs.Calls.{IsGroupAt, Place, place_after}
use Rattle.sgb_split.specs.Linear.{LinearQuestions}
use Rattle.sgb_split.specs.Questions.{IsRun, questions}
use Rattle.sgb_split.proofs.Lists.Ranges.{length-range}
use Rattle.sgb_numbers.specs.Numbers.{IsFirstEnd, IsLastStart}
use Rattle.sgb_numbers.proofs.Asked.{asked_front, asked_back}

range_split : {T : Type 0} (xs : List T) (low middle high : ℕ) → low ≤ middle → middle ≤ high
    → slice_range xs low high ≡ slice_range xs low middle ++ slice_range xs middle high
range_split xs low middle high a b =
    ap (λ (n : ℕ). take n (drop low xs)) {x = high - low} {y = (middle - low) + (high - middle)} (omega arith)
    ∙ take-add (middle - low) (high - middle) (drop low xs)
    ∙ ap (λ ys. slice_range xs low middle ++ take (high - middle) ys)
    (drop-drop (middle - low) low xs ∙ ap (λ (n : ℕ). drop n xs) {x = low + (middle - low)} {y = middle} (omega arith))

abbrev pub from_place : {T : Type 0} → List T → ℕ → Place T
from_place xs low = record { input = xs; offset = low }

module _ {T : Type 0} (eq : T → T → Bool) (xs : List T) (low high : ℕ) (inside : high ≤ length xs) where
  pub front_place : (end : ℕ) → IsFirstEnd eq xs low high end
      → from_place xs end ≡ place_after Front (length (slice_range xs low end)) (from_place xs low)
  front_place end is =
      let long = length-range xs low end (omega (arith, is.nonempty)) (omega (arith, is.within, inside)) in
      ap (from_place xs) {x = end} {y = low + length (slice_range xs low end)} (omega (arith, long, is.nonempty))

-- a judge that answers what eq says
module _ {T J : Type 0} (eq : T → T → Bool) (g : Ghosts J T) (j : J) (asks : (q : T × T) → g.may_ask j q)
    (tells : (q : T × T) → g.answers j q (eq q.0 q.1) j) (xs : List T) (low high : ℕ) (inside : high ≤ length xs) where
  pub front_call : (end : ℕ) → IsFirstEnd eq xs low high end
      → IsGroupAt (LinearQuestions g) Front (record { remainder = slice_range xs low high; judge = j }) (slice_range xs low end)
      (record { remainder = slice_range xs end high; judge = j })
  front_call end is =
      let long = length-range xs low end (omega (arith, is.nonempty)) (omega (arith, is.within, inside)) in
      record {
        nonempty = omega (arith, long, is.nonempty);
        cut = range_split xs low end high (omega (arith, is.nonempty)) is.within;
        asked =
            subst (λ (n : ℕ). IsRun g.may_ask g.answers j (questions Front (slice_range xs low high) n) j) (sym long)
            (asked_front eq g j asks tells xs low high (omega (arith, is.nonempty, is.within)) inside end is);
      }

  pub back_call : (start : ℕ) → IsLastStart eq xs low high start
      → IsGroupAt (LinearQuestions g) Back (record { remainder = slice_range xs low high; judge = j }) (slice_range xs start high)
      (record { remainder = slice_range xs low start; judge = j })
  back_call start is =
      let long = length-range xs start high (omega (arith, is.nonempty)) inside in
      record {
        nonempty = omega (arith, long, is.nonempty);
        cut = range_split xs low start high is.within (omega (arith, is.nonempty));
        asked =
            subst (λ (n : ℕ). IsRun g.may_ask g.answers j (questions Back (slice_range xs low high) n) j) (sym long)
            (asked_back eq g j asks tells xs low high (omega (arith, is.nonempty, is.within)) inside start is);
      }
