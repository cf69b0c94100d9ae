use Rattle.std.proofs.Common.{None, nat_eq, refl, ap, ◌∙◌, rules}
use Rattle.std.specs.List.{fold}
use Rattle.std.proofs.lemmas.Iterator.Consumers.{YieldsList-end}
use Rattle.slice_group_by.specs.Split.{split}
use Rattle.example_counts.specs.Longest.{longer}
use Rattle.example_counts.proofs.parts.longest_in_shards.Goals as goal

pub returns : goal.returns
returns c =
    let sees = c.sees_shards.ensures in
    let seen = sees.shards nat_eq c.shards-shards.result c.args.slice.now
    (c.shards-shards.ensures.settled nat_eq (c.new.ensures.settled tt)) (search rules) in
    let yielded = rw c.into_iter-shard-iterator.ensures.into_iter_gives at c.loop-shard.yielded_by in
    let all = YieldsList-end seen.2 _ _ yielded None c.next.new.self refl c.in-None.ensures.steps in
    c.loop-shard.invariant ∙ ap (fold (λ most shard. fold longer most (split nat_eq shard)) 0) all.0
    ∙ sees.fold longer 0 nat_eq _ _ _ seen.1
