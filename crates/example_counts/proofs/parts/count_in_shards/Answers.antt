use Rattle.std.proofs.Common.{length, nat_eq, sym, ap, ◌∙◌, arith, rules}
use Rattle.std.proofs.lemmas.Iterator.{YieldsList-from_map}
use Rattle.std.proofs.lemmas.Iterator.Consumers.{YieldsList-at, fits_by_from_yields_list, sum_by_from_yields_List}
use Rattle.std.proofs.lemmas.List.Concat.{length-flat_map}
use Rattle.slice_group_by.specs.Split.{split}
use Rattle.example_counts.proofs.parts.count_in_shards.Goals as goal

pub sum-requires-clause-fits : goal.sum-requires-clause-fits
sum-requires-clause-fits c =
    let xs = c.args.slice.now in
    let k = c.sees_shards.ensures.shards nat_eq c.shards-shards.result c.args.slice.now
    (c.shards-shards.ensures.settled nat_eq (c.new.ensures.settled tt)) (search rules) in
    fits_by_from_yields_list (λ shard. length (split nat_eq shard)) k.0 c.map.result _
    (YieldsList-from_map _ (λ shard. length (split nat_eq shard)) (YieldsList-at c.map.ensures.source k.2) c.map.ensures.closure
    (λ x r q h. search rules))
    (omega (arith, length-flat_map (split nat_eq) k.0, ap length k.1.groups, c.one_split.ensures.few nat_eq xs, c.type_inv))

pub returns : goal.returns
returns c =
    let k = c.sees_shards.ensures.shards nat_eq c.shards-shards.result c.args.slice.now
    (c.shards-shards.ensures.settled nat_eq (c.new.ensures.settled tt)) (search rules) in
    sum_by_from_yields_List (λ shard. length (split nat_eq shard)) k.0 c.map.result _ c.sum.ensures.ran
    (YieldsList-from_map _ (λ shard. length (split nat_eq shard)) (YieldsList-at c.map.ensures.source k.2) c.map.ensures.closure
    (λ x r q h. search rules))
    ∙ sym (length-flat_map (split nat_eq) k.0) ∙ ap length k.1.groups
