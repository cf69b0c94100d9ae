use Rattle.std.proofs.Common.{◌-◌, ◌^◌, None, min, nat_eq, sum_by, refl, ap, ◌∙◌, rules}
use Rattle.std.proofs.lemmas.Iterator.Consumers.{YieldsList-end}
use Rattle.std.proofs.lemmas.List.Sums.{sum_by-append}
use Rattle.example_counts.proofs.parts.sum_in_shards.Goals as goal

pub returns : goal.returns
returns c =
    let sees = c.sees_shards.ensures in
    let seen = sees.shards nat_eq c.shards-shards.result c.args.slice.now
    (c.shards-shards.ensures.settled nat_eq (c.new.ensures.settled tt)) (search rules) in
    let yielded = rw c.into_iter-shard-iterator.ensures.into_iter_gives at c.loop-shard.yielded_by in
    let all = YieldsList-end seen.2 _ _ yielded None c.next.new.self refl c.in-None.ensures.steps in
    c.loop-shard.invariant
    ∙ ap (λ n. min n (2 ^ 64 - 1))
    (ap (sum_by (sum_by (λ x. x))) all.0 ∙ sees.sums (sum_by (λ x. x)) (sum_by-append (λ x. x)) _ _ _ _ seen.1)
