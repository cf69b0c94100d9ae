-- The part of a list between two places, and the parts that a place between makes of it.
use Rattle.std.proofs.Common.{◌≡◌, ℕ, ◌+◌, ◌-◌, ◌≤◌, List, ◌++◌, length, take, drop, ap, sym, ◌∙◌, arith}
use Rattle.std.proofs.lemmas.List.{take-append-drop, take-take, drop-take, drop-drop}
use Rattle.std.proofs.Math.Seq.{take-length}
use Rattle.std.specs.Prelude.{slice_range}

module _ {T : Type 0} (xs : List T) where
  -- the whole list
  pub range_all : (n : ℕ) → n ≡ length xs → slice_range xs 0 n ≡ xs
  range_all n e = ap (λ (k : ℕ). take k xs) {x = n - 0} {y = length xs} (omega arith) ∙ take-length xs

  pub range_split : (low middle high : ℕ) → low ≤ middle → middle ≤ high
      → slice_range xs low high ≡ slice_range xs low middle ++ slice_range xs middle high
  range_split low middle high a b =
      let part = slice_range xs low high in
      let n = middle - low in
      let front : take n part ≡ slice_range xs low middle = take-take n (high - low) (drop low xs) (omega arith) in
      let back : drop n part ≡ slice_range xs middle high =
      ap (λ (k : ℕ). drop n (take k (drop low xs))) {x = high - low} {y = n + (high - middle)} (omega arith)
      ∙ drop-take n (high - middle) (drop low xs)
      ∙ ap (take (high - middle)) (drop-drop n low xs ∙ ap (λ (k : ℕ). drop k xs) {x = low + n} {y = middle} (omega arith)) in
      sym (take-append-drop n part) ∙ ap (λ (ys : List T). ys ++ drop n part) front
      ∙ ap (λ (ys : List T). slice_range xs low middle ++ ys) back
