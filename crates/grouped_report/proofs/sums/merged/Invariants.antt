use Rattle.std.proofs.Common.{◌≡◌, drop, flat_map, map}
use Rattle.std.specs.List.{AllByRecursion}
use Rattle.std.specs.Vec.Iter.{into_iter_items}
use Rattle.slice_merge_join.specs.Merge.{lefts, rights}
use Rattle.grouped_report.specs.Sums.{IsOneOfEach, counts_of}
use Rattle.grouped_report.proofs.Moves.{AreMoved}
use Rattle.grouped_report.proofs.Witness.{Parts}
use Rattle.grouped_report.proofs.sums.merged.Given as goal

abbrev pub invariant-loop-count : goal.invariant-loop-count
invariant-loop-count l = (ps : Parts) → AllByRecursion (λ p. IsOneOfEach (lefts p) (rights p)) ps
    → into_iter_items l.initial.left ≡ flat_map lefts ps → into_iter_items l.initial.right ≡ flat_map rights ps
    → l.count-items ≡ map counts_of ps
    → AreMoved ps l.sums.items (into_iter_items l.left) (into_iter_items l.right) (drop l.count-index l.count-items)
