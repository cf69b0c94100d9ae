-- What linear calls ask, and what they answer where the judge answers by its arguments alone.
use Rattle.std.specs.Prelude.{ℕ, Bool, List, ◌++◌, map, IsPermutation}
pub use Rattle.sgb_split.specs.Questions.{all_answered, questions_along, questions}
use Rattle.sgb_split.specs.declared.end.End.{End}
use Rattle.sgb_split.specs.Split.{neighbours, AreNeighbours}
use Rattle.sgb_split.specs.declared.judge.Judge.{Ghosts}
use Rattle.sgb_split.specs.Judges.{IsRun}
use Rattle.sgb_split.specs.Calls.{Groups, ComputesBy}

module _ {T J : Type 0} (g : Ghosts J T) where
  -- each answer to questions about the neighbouring pairs that remain, in any order, is what p says
  abbrev pub IsSettled : Groups T J → (T → T → Bool) → Type 0
  IsSettled = ComputesBy AreNeighbours g

  -- what a linear call asks: exactly the questions up to the end of the n elements that it takes
  abbrev pub LinearQuestions : End → List T → ℕ → J → J → Type 0
  LinearQuestions e xs n j k = IsRun g.may_ask g.answers j (questions e xs n) k

  -- from s to t the judge was asked about the neighbouring pairs that are gone, about each once
  pub record AsksEachOnce (s t : Groups T J) : Type 0 where
    pub questions : List ((T × T) × Bool)
    pub run : IsRun g.may_ask g.answers s.judge questions t.judge
    pub pairs : IsPermutation (map (λ r. r.0) questions ++ neighbours t.remainder) (neighbours s.remainder)
