-- Whether two neighbours differ, by their elements.
use Rattle.std.proofs.Common.{◌≡◌, ℕ, suc, ◌+◌, ◌-◌, ◌<◌, not, Bool, false, List, length, get_or, ap, ◌∙◌, arith}
use Rattle.std.proofs.lemmas.List.{length-map, get_or-map, get_or_default}
use Rattle.sgb_split.specs.Split.{neighbours, on_pairs}
use Rattle.sgb_split.proofs.Lists.Pairs.{neighbours_at, length-neighbours}
use Rattle.sgb_numbers.specs.Numbers.{boundaries, differs}

module _ {T : Type 0} (eq : T → T → Bool) (xs : List T) where
  pub length-boundaries : length (boundaries eq xs) ≡ length xs - 1
  length-boundaries = length-map (neighbours xs) _ ∙ length-neighbours xs

  pub differs_at : (at : ℕ) (a b : T) → at + 1 < length xs → a ≡ get_or xs at a → b ≡ get_or xs (at + 1) b → differs eq xs at ≡ not (eq a b)
  unfolding differs
  differs_at at a b l e f =
      let next : b ≡ get_or xs (suc at) b = f ∙ ap (λ (n : ℕ). get_or xs n b) {x = at + 1} {y = suc at} (omega arith) in
      let pair = neighbours_at xs at a b (omega arith) e next in
      get_or-map (λ q. not (on_pairs eq q)) (neighbours xs) at (a, b) false pair.inside ∙ ap (λ q. not (on_pairs eq q)) pair.is

  pub differs_or : (p : ℕ) (d : T) → p + 1 < length xs → differs eq xs p ≡ not (eq (get_or xs p d) (get_or xs (p + 1) d))
  differs_or p d l = differs_at p (get_or xs p d) (get_or xs (p + 1) d) l (get_or_default xs p d (get_or xs p d) (omega arith))
      (get_or_default xs (p + 1) d (get_or xs (p + 1) d) l)
