use Rattle.std.proofs.Common.{rules}
use Rattle.std.proofs.lemmas.Fn.{always_returns_same}
use Rattle.std.proofs.lemmas.Iterator.{YieldsList-from_map_by}
use Rattle.std.proofs.lemmas.Iterator.Consumers.{YieldsList-at, map_from_collect}
use Rattle.slice_merge_join.specs.Merge.{lefts, rights}
use Rattle.example_joins.specs.Names.{shown_groups}
use Rattle.example_joins.proofs.merged.sides.Goals as goal

pub returns : goal.returns
returns g c ps m =
    let xs = c.args.left.now in
    let ys = c.args.right.now in
    let ord = g.A.Compares.order in
    let seen = YieldsList-at c.map.ensures.source (c.sees_merge.ensures.merge ord c.new-join.result xs ys _ ps c.new-join.ensures.sides
    (c.always_compares.ensures.answers ord xs ys _ (always_returns_same _ _ _ (λ a r f' k. search rules))) m) in
    map_from_collect _ c.collect.ensures.ran
    (YieldsList-from_map_by _ shown_groups (λ p. (lefts p, rights p)) seen c.map.ensures.closure (λ x r q k. search rules))
