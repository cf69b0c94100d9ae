use Rattle.std.proofs.Common.{rules, tests, length, get_or, nat_eq, sym}
use Rattle.std.proofs.lemmas.Iterator.{YieldsList-from_map, items_from_collect}
use Rattle.std.proofs.lemmas.Iterator.Consumers.{YieldsList-at, YieldsList-from_filter}
use Rattle.std.proofs.lemmas.List.{map-id}
use Rattle.slice_group_by.specs.End.TheVariants.{Front}
use Rattle.example_walks.proofs.queries.once_only.Goals as goal

pub returns : goal.returns
returns c =
    let seen = YieldsList-at c.filter.ensures.source
    (c.sees_pieces.ensures.pieces nat_eq Front c.new-groups.result (c.new-groups.ensures.settled tt)) in
    let single = c.queries_by_key.ensures.having (λ k g. k) (λ g. nat_eq (length g) 1) (λ x. x) 0 c.args.xs.now (rw map-id c.requires) in
    rw (sym (rw (map-id, map-id c.args.xs.now) at single)) (rw c.new-groups.ensures.remainder at
    (items_from_collect c.collect.result c.collect.ensures.ran
    (YieldsList-from_map _ (λ g. get_or g 0 0) (YieldsList-at c.map.ensures.source
    (YieldsList-from_filter _ (λ g. nat_eq (length g) 1) seen c.filter.ensures.closure (λ x b q k. search (rules, tests))))
    c.map.ensures.closure (λ x r q k. search rules))))
