-- A scan, question by question: along pairs that are all accepted, up to the first that is refused.
use Rattle.std.proofs.Common.{◌≡◌, ℕ, suc, ◌+◌, ◌-◌, ◌<◌, ◌≤◌, Bool, true, false, List, [], ◌∷◌, ◌++◌, length, take, drop, get_or, ap, ◌∙◌, arith, drop-cons}
use Rattle.std.specs.Prelude.{reverse}
use Rattle.std.proofs.lemmas.List.{take_more, map-append, append-nil, length-reverse}
use Rattle.std.proofs.Math.ListN.{drop_of_length-le}
use Rattle.sgb_split.specs.Judges.{IsRun}
use Rattle.sgb_split.specs.Split.{neighbours, AreNeighbours}
use Rattle.sgb_split.specs.Linear.{all_answered, questions_along}
use Rattle.sgb_split.proofs.Questions.Runs.{run_push}
use Rattle.sgb_split.proofs.Lists.Pairs.{PairAt, at_reverse, one_of_at, length-neighbours, neighbours_at}

all_answered_append : {A : Type 0} (b : Bool) (qs rs : List (A × A)) → all_answered b (qs ++ rs) ≡ all_answered b qs ++ all_answered b rs
all_answered_append b qs rs = map-append (λ q. (q, b)) qs rs

module _ {S A : Type 0} (may : S → A × A → Type 0) (gives : S → A × A → Bool → S → Type 0) (qs : List (A × A)) (s : S) where
  -- the first k pairs were asked about, from s to t, and all accepted
  pub record Accepted (k : ℕ) (t : S) : Type 0 where
    pub run : IsRun may gives s (all_answered true (take k qs)) t

  pub accepted_none : (k : ℕ) (t : S) → k ≡ 0 → t ≡ s → Accepted k t
  accepted_none k t e f = record { run = rw e f }

  module _ (k : ℕ) (t u : S) (q : A × A) (h : Accepted k t) (here : PairAt qs k q) (m : may t q) where
    pub accepted_more : gives t q true u → (j : ℕ) → j ≡ k + 1 → Accepted j u
    accepted_more e j f =
        let more : take j qs ≡ take k qs ++ q ∷ [] = rw f (take_more qs k q here.inside ∙ ap (λ r. take k qs ++ r ∷ []) here.is) in
        record { run = rw (more, all_answered_append true (take k qs) (q ∷ [])) (run_push may gives s _ t u q true h.run m e) }

    pub refused_next : gives t q false u → (n : ℕ) → n ≡ k + 1 → IsRun may gives s (questions_along qs n) u
    refused_next e n f =
        let i : n - 1 ≡ k = omega arith in
        let next : drop k qs ≡ q ∷ drop (suc k) qs = drop-cons qs k q here.inside ∙ ap (λ r. r ∷ drop (suc k) qs) here.is in
        rw (i, next) (run_push may gives s _ t u q false h.run m e)

  -- no pair is left
  pub accepted_all : (k : ℕ) (t : S) → Accepted k t → length qs ≤ k → (n : ℕ) → n ≡ k + 1 → IsRun may gives s (questions_along qs n) t
  accepted_all k t h l n f =
      let i : n - 1 ≡ k = omega arith in
      rw (i, drop_of_length-le qs {i = k} l, append-nil (all_answered true (take k qs))) h.run

-- the places of a scan: the elements before the place i and at it are asked about
module _ {T : Type 0} (xs : List T) (i : ℕ) (a b : T) (lower : 0 < i) (upper : i < length xs)
    (p : a ≡ get_or xs (i - 1) a) (q : b ≡ get_or xs i b) where
  -- from the front
  pub front_pair : PairAt (neighbours xs) (i - 1) (a, b)
  front_pair =
      let here : b ≡ get_or xs (suc (i - 1)) b = q ∙ ap (λ (n : ℕ). get_or xs n b) {x = i} {y = suc (i - 1)} (omega arith) in
      neighbours_at xs (i - 1) a b (omega arith) p here

  -- from the back
  pub back_pair : PairAt (reverse (neighbours xs)) (length xs - i - 1) (a, b)
  back_pair = at_reverse (neighbours xs) (i - 1) (length xs - i - 1) (a, b) front_pair (omega (arith, length-neighbours xs))

  pub are_neighbours : AreNeighbours xs (a, b)
  are_neighbours = one_of_at (neighbours xs) (i - 1) (a, b) front_pair

-- how many pairs there are from the back
pub back_pairs : {T : Type 0} (xs : List T) → length (reverse (neighbours xs)) ≡ length xs - 1
back_pairs xs = length-reverse (neighbours xs) ∙ length-neighbours xs
