use Rattle.std.proofs.Common.{rules, ap, flat_map, nat_eq, replicate, ◌∙◌}
use Rattle.std.proofs.lemmas.Bool.{eqb-true}
use Rattle.std.proofs.lemmas.Result.{IfOk-weaker}
use Rattle.std.proofs.lemmas.Iterator.{YieldsList-from_map, items_from_collect}
use Rattle.std.proofs.lemmas.Iterator.Consumers.{YieldsList-at}
use Rattle.std.proofs.lemmas.List.{map-id}
use Rattle.slice_group_by.specs.End.TheVariants.{Front}
use Rattle.example_walks.proofs.keys.encoded.Goals as goal

pub returns-clause-runs : goal.returns-clause-runs
returns-clause-runs c =
    let counts = c.dedup_with_count-counts in
    let seen = YieldsList-at c.map.ensures.source (c.sees_counts.ensures nat_eq Front counts.result
    (rw counts.ensures (c.new.ensures.settled tt))) in
    rw (counts.ensures, c.new.ensures.remainder, map-id) at (items_from_collect c.collect.result c.collect.ensures.ran
    (YieldsList-from_map _ (λ run. run) seen c.map.ensures.closure (λ x r q k. search rules)))

pub returns-clause-decodes : goal.returns-clause-decodes
returns-clause-decodes c =
    IfOk-weaker c.collect.result _ _ (λ runs e. ap (flat_map (λ r. replicate r.0 r.1)) e
    ∙ c.equal_pieces_are_copies.ensures.decode nat_eq eqb-true c.args.slice.now) (returns-clause-runs c)
