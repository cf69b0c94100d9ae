use Rattle.std.proofs.Common.{◌≡◌, ◌-◌, ◌^◌, map, min, sum_by}
use Rattle.example_counts.proofs.parts.sum_in_shards.Given as goal

abbrev pub invariant-loop-shard : goal.invariant-loop-shard
invariant-loop-shard l = l.sum ≡ min (sum_by (sum_by (λ x. x)) (map (λ shard. shard.now) l.yielded)) (2 ^ 64 - 1)
