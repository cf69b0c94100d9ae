use Rattle.std.proofs.Common.{rules, length, sym, ap, subst}
use Rattle.std.specs.Fn.{ComputesKey}
use Rattle.std.proofs.lemmas.Fn.{always_returns_same}
use Rattle.std.proofs.lemmas.Iterator.{YieldsList-from_map, items_from_collect}
use Rattle.std.proofs.lemmas.Iterator.Consumers.{YieldsList-at}
use Rattle.std.proofs.lemmas.Simd.{map-map}
use Rattle.slice_group_by.specs.End.TheVariants.{Front}
use Rattle.example_counts.specs.Keys.{key}
use Rattle.example_counts.proofs.pieces.rows_by_key.Goals as goal

pub returns : goal.returns
returns c =
    let groups = c.with_keys-groups in
    let seen = YieldsList-at c.map.ensures.source (c.sees_keys.ensures key Front groups.result
    (rw groups.ensures (
      subst (ComputesKey _ key) (sym (ap (λ j. j.func) c.new.ensures.judge)) (always_returns_same _ _ _ (λ a r f' k. search rules)),
      tt,
    ))) in
    rw (groups.ensures, c.new.ensures.remainder, c.pieces_by_key.ensures.keyed key c.args.rows.now c.requires, map-map)
    at (items_from_collect c.collect.result c.collect.ensures.ran
    (YieldsList-from_map _ (λ run. (run.0, length run.1)) seen c.map.ensures.closure (λ x r q k. search rules)))
