-- Groups of equal numbers: what their judge answers, where neighbouring elements of a list differ, and what a scan finds that compares
-- with the element at the end.
use Rattle.std.specs.Prelude.{◌≡◌, ℕ, ◌+◌, ◌-◌, ◌<◌, ◌≤◌, Bool, true, false, not, List, map, slice_index_or}
use Rattle.sgb_split.specs.Split.{neighbours, on_pairs}
use Rattle.sgb_split.specs.declared.judge.Judge.{Ghosts}
use Rattle.sgb_numbers.specs.declared.number_judge.NumberJudge.{NumberJudge}

-- by number: the answer is what eq says
abbrev pub by_number : {T : Type 0} → (T → T → Bool) → Ghosts NumberJudge T
by_number eq = record {
  may_ask = λ _ _. Unit {0};
  answers = λ j q b k. b ≡ eq q.0 q.1;
}

module _ {T : Type 0} (eq : T → T → Bool) where
  -- of each neighbouring pair, in order, whether its elements differ
  abbrev pub boundaries : List T → List Bool
  boundaries xs = map (λ q. not (on_pairs eq q)) (neighbours xs)

  -- whether the elements at the places p and p + 1 differ; past the last pair they do not
  unfoldable pub differs : List T → ℕ → Bool
  differs xs p = slice_index_or (boundaries xs) p false

module _ {T : Type 0} (eq : T → T → Bool) (xs : List T) where
  -- no pair from i up to, not including, j differs
  pub record AreSame (i j : ℕ) : Type 0 where
    pub at : (p : ℕ) → i ≤ p → p < j → differs eq xs p ≡ false

  -- the first group of the part from low up to, not including, high ends before the place end
  pub record IsFirstEnd (low high end : ℕ) : Type 0 where
    pub nonempty : low < end
    pub within : end ≤ high
    pub same : AreSame low (end - 1)
    pub differ : end < high → differs eq xs (end - 1) ≡ true

  -- the last group of that part begins at the place start
  pub record IsLastStart (low high start : ℕ) : Type 0 where
    pub nonempty : start < high
    pub within : low ≤ start
    pub same : AreSame start (high - 1)
    pub differ : low < start → differs eq xs (start - 1) ≡ true

module _ {T : Type 0} (eq : T → T → Bool) where
  -- each element of xs from the place i up to the place j is equal to e
  pub record AreLike (e : T) (xs : List T) (i j : ℕ) : Type 0 where
    pub at : (k : ℕ) → i ≤ k → k < j → eq (slice_index_or xs k e) e ≡ true

  -- just n elements from the place low on, of those before the place high, are equal to the one at low, which is one of them
  pub record IsFirstLen (xs : List T) (low high n : ℕ) : Type 0 where
    pub nonempty : 0 < n
    pub within : low + n ≤ high
    pub like : (e : T) → AreLike (slice_index_or xs low e) xs (low + 1) (low + n)
    pub unlike : (e : T) → low + n < high → eq (slice_index_or xs (low + n) e) (slice_index_or xs low e) ≡ false

  -- just n elements before the place high, of those from the place low on, are equal to the last of them
  pub record IsLastLen (xs : List T) (low high n : ℕ) : Type 0 where
    pub nonempty : 0 < n
    pub within : low + n ≤ high
    pub like : (e : T) → AreLike (slice_index_or xs (high - 1) e) xs (high - n) (high - 1)
    pub unlike : (e : T) → low + n < high → eq (slice_index_or xs (high - n - 1) e) (slice_index_or xs (high - 1) e) ≡ false
