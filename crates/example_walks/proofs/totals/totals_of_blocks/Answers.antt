use Rattle.std.proofs.Common.{ℕ, ◌-◌, ◌^◌, List, flat_map, get_or, map, min, sym, ap, ◌∙◌, rules, Bor}
use Rattle.std.specs.List.{sum_by}
use Rattle.std.proofs.lemmas.List.{take_all}
use Rattle.std.proofs.lemmas.Simd.{map-map}
use Rattle.slice_group_by.specs.Split.{split}
use Rattle.example_walks.specs.Totals.{amount, key, same_key}
use Rattle.example_walks.proofs.totals.totals_of_blocks.Goals as goal

pub returns : goal.returns
returns c =
    let rows = flat_map (λ (block : Bor (List (ℕ × ℕ))). block.now) c.args.blocks.now in
    let total : ℕ × List (ℕ × ℕ) → ℕ × ℕ = λ g. (g.0, min (sum_by amount g.1) (2 ^ 64 - 1)) in
    let all = take_all c.loop-block.block-index c.args.blocks.now (search rules) in
    rw all at c.loop-block.invariant.1 ∙ sym (map-map total (λ g. (key (get_or g 0 (0, 0)), g)) (split same_key rows))
    ∙ ap (map total) (c.pieces_by_key.ensures.by_first key (0, 0) rows c.requires) ∙ map-map total _ _
