use Rattle.std.proofs.Common.{◌≡◌, ◌*◌, ◌^◌, ◌<◌, flat_map, length, take}
use Rattle.example_counts.proofs.counts.stream_key_calls.Given as goal

abbrev pub invariant-loop-block : goal.invariant-loop-block
invariant-loop-block l =
    2 * length (flat_map (λ block. block.now) (take l.block-index l.blocks)) < 2 ^ 64
    → l.count ≡ 2 * length (flat_map (λ block. block.now) (take l.block-index l.blocks))
