use Rattle.std.proofs.Common.{◌≡◌, rules, arith, ℕ, ◌+◌, count_by, get_or, map, nat_eq, nat_lt, sym, ap, ◌∙◌}
use Rattle.std.specs.List.{dedup}
use Rattle.std.specs.Ordering.{is_lt, nat_cmp}
use Rattle.std.proofs.lemmas.Bool.Decides.{nat_tests}
use Rattle.std.proofs.lemmas.Iterator.{YieldsList-from_map, items_from_collect}
use Rattle.std.proofs.lemmas.Iterator.Consumers.{YieldsList-at}
use Rattle.std.proofs.lemmas.List.{map-id}
use Rattle.slice_group_by.specs.Calls.{Place}
use Rattle.slice_group_by.specs.End.TheVariants.{Front}
use Rattle.example_walks.proofs.queries.ranks.Goals as goal

pub returns : goal.returns
returns c =
    let groups = c.with_offsets-groups in
    let pieces = c.sees_pieces.ensures.pieces nat_eq Front groups.result (rw groups.ensures (c.new.ensures.settled tt)) in
    let seen = YieldsList-at c.map.ensures.source (c.groups_stand.ensures.yields groups.result _ pieces) in
    let points = c.args.points.now in
    let less : (a b : ℕ) → is_lt (nat_cmp a b) ≡ nat_lt a b = λ a b. grind (arith, nat_tests) in
    let ranked = rw map-id at (c.queries_by_key.ensures.ranks_down (λ k n. (k, n + 1)) (λ x. x) 0 points (rw map-id c.requires))
    ∙ (λ i. map (λ k. (k, count_by (λ y. less k y i) points + 1)) (dedup nat_eq points)) in
    rw (sym ranked) (rw (groups.ensures, ap (λ (p : Place ℕ). p.offset) c.new.ensures.place, c.new.ensures.remainder)
    at (items_from_collect c.collect.result c.collect.ensures.ran
    (YieldsList-from_map _ (λ e. (get_or e.1 0 0, e.0 + 1)) seen c.map.ensures.closure (λ x r q k. search rules))))
