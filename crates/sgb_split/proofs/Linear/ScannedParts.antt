-- A scan of the part of a list between two places.
use Rattle.std.proofs.Common.{◌≡◌, ℕ, ◌+◌, ◌-◌, ◌<◌, ◌≤◌, List, length, get_or, subst, arith}
use Rattle.std.specs.Prelude.{slice_range, reverse}
use Rattle.sgb_split.specs.Split.{from, neighbours, AreNeighbours}
use Rattle.sgb_split.specs.declared.end.End.{End}
use Rattle.sgb_split.specs.declared.end.End.TheVariants.{Front, Back}
use Rattle.sgb_split.proofs.Lists.Pairs.{PairAt, length-neighbours}
use Rattle.sgb_split.proofs.Lists.Ranges.{length-range, at_range}
use Rattle.sgb_split.proofs.Linear.Scanning.{front_pair, back_pair, are_neighbours, back_pairs}

-- the place behind so many elements from the end on, or before them
abbrev pub right_at : End → ℕ → ℕ → ℕ → ℕ
right_at Front low high len = low + len
right_at Back low high len = high - len

-- the elements before the place i of the list and at it are asked about
module _ {T : Type 0} (xs : List T) (low high : ℕ) (inside : high ≤ length xs) (nonempty : low < high) where
  pub pairs_in : (e : End) → length (from e (neighbours (slice_range xs low high))) ≡ high - low - 1
  pairs_in Front = omega (arith, length-neighbours (slice_range xs low high), length-range xs low high (omega arith) inside)
  pairs_in Back = omega (arith, back_pairs (slice_range xs low high), length-range xs low high (omega arith) inside)

  -- the pair behind as many elements from the end on
  module _ (e : End) (len : ℕ) (some : 0 < len) (more : len < high - low) (i : ℕ) (is : i ≡ right_at e low high len) (a b : T)
      (p : a ≡ get_or xs (i - 1) a) (q : b ≡ get_or xs i b) where
    between : (e : End) → i ≡ right_at e low high len → (low < i) × (i < high)
    between Front is = (omega arith, omega arith)
    between Back is = (omega arith, omega arith)

    lower : low < i
    lower = (between e is).0

    upper : i < high
    upper = (between e is).1

    here : i - low < length (slice_range xs low high)
    here = omega (arith, lower, upper, length-range xs low high (omega arith) inside)

    before : a ≡ get_or (slice_range xs low high) (i - low - 1) a
    before = at_range xs low high (i - low - 1) (i - 1) a (omega (arith, lower)) (omega (arith, lower, upper)) p

    at : b ≡ get_or (slice_range xs low high) (i - low) b
    at = at_range xs low high (i - low) i b (omega (arith, lower)) upper q

    pub neighbours_in : AreNeighbours (slice_range xs low high) (a, b)
    neighbours_in = are_neighbours (slice_range xs low high) (i - low) a b (omega (arith, lower)) here before at

    pub pair_in : PairAt (from e (neighbours (slice_range xs low high))) (len - 1) (a, b)
    pair_in = by e is
      where
        by : (e : End) → i ≡ right_at e low high len → PairAt (from e (neighbours (slice_range xs low high))) (len - 1) (a, b)
        by Front is =
            subst (λ (n : ℕ). PairAt (neighbours (slice_range xs low high)) n (a, b)) {x = i - low - 1} {y = len - 1} (omega arith)
            (front_pair (slice_range xs low high) (i - low) a b (omega (arith, lower)) here before at)
        by Back is =
            subst (λ (n : ℕ). PairAt (reverse (neighbours (slice_range xs low high))) n (a, b))
            {x = length (slice_range xs low high) - (i - low) - 1} {y = len - 1}
            (omega (arith, length-range xs low high (omega arith) inside))
            (back_pair (slice_range xs low high) (i - low) a b (omega (arith, lower)) here before at)
