-- Runs of questions with their answers, what may be asked in a run, and the questions of a linear call: by elements of a slice, and by
-- characters of a text.
--     IsRun may gives s rs t   the questions rs, with their answers, lead from the state s to t
--     questions e xs g         what a linear call at the end e asks that takes g > 0 elements, with the answers
use Rattle.std.specs.Prelude.{◌≡◌, ℕ, ◌-◌, Bool, true, false, List, [], ◌∷◌, ◌++◌, length, map, take, drop}
use Rattle.std.specs.List.{AllByRecursion}
use Rattle.sgb_split.specs.declared.end.End.{End}
use Rattle.sgb_split.specs.Split.{from, neighbours}

-- A run speaks of the states of a judge, a comparator or a key function, and so holds of each call that its state can tell: code that is
-- generic in the judge is held to it by a judge that keeps a list of its calls.

-- may s q: in the state s the question q may be asked; gives s q a t: the answer may be a, and then the state is t
module _ {S Q A : Type 0} (may : S → Q → Type 0) (gives : S → Q → A → S → Type 0) where
  -- from s to t: each pair is a question and its answer, asked in the state in which the one before it ended, and allowed there
  abbrev pub IsRun : S → List (Q × A) → S → Type 0
  IsRun s [] t = t ≡ s
  IsRun s (r ∷ rs) t = may s r.0 × ((u : S) × gives s r.0 r.1 u × IsRun u rs t)

  -- some run of n questions leads from s to t
  abbrev pub IsRunOf : ℕ → S → S → Type 0
  IsRunOf n s t = (rs : List (Q × A)) × IsRun s rs t × (length rs ≡ n)

  -- in every state that runs of allowed questions reach, each allowed question may be asked
  abbrev pub IsCallable : (Q → Type 0) → S → Type 0
  IsCallable allowed s = (rs : List (Q × A)) (t : S) → IsRun s rs t → AllByRecursion (λ r. allowed r.0) rs → (q : Q) → allowed q → may t q

  -- each allowed question has the one answer, in every state that runs of allowed questions reach
  pub record Computes (allowed : Q → Type 0) (answer : Q → A) (s : S) : Type 0 where
    pub at : (rs : List (Q × A)) (t : S) → IsRun s rs t → AllByRecursion (λ r. allowed r.0) rs → AllByRecursion (λ r. r.1 ≡ answer r.0) rs

module _ {A : Type 0} where
  -- the pairs, each with the same answer
  abbrev pub all_answered : Bool → List (A × A) → List ((A × A) × Bool)
  all_answered b qs = map (λ q. (q, b)) qs

  -- going along the pairs, the first g - 1 are accepted and then the next is refused, if there is one
  abbrev pub questions_along : List (A × A) → ℕ → List ((A × A) × Bool)
  questions_along qs g = all_answered true (take (g - 1) qs) ++ all_answered false (take 1 (drop (g - 1) qs))

  -- the questions of a linear call that takes the g elements at the end, with their answers: the pairs come from that end, the left
  -- element of each always first
  abbrev pub questions : End → List A → ℕ → List ((A × A) × Bool)
  questions e xs g = questions_along (from e (neighbours xs)) g
