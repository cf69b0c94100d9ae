use Rattle.std.proofs.Common.{◌≡◌, map, nat_eq}
use Rattle.std.specs.List.{fold}
use Rattle.slice_group_by.specs.Split.{split}
use Rattle.example_counts.specs.Longest.{longer}
use Rattle.example_counts.proofs.parts.longest_in_shards.Given as goal

abbrev pub invariant-loop-shard : goal.invariant-loop-shard
invariant-loop-shard l = l.most ≡ fold (λ most shard. fold longer most (split nat_eq shard)) 0 (map (λ shard. shard.now) l.yielded)
