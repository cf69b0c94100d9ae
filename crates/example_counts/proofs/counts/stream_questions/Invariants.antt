use Rattle.std.proofs.Common.{◌≡◌, ◌-◌, ◌^◌, ◌≤◌, flat_map, length, take}
use Rattle.slice_group_by.specs.Split.{last}
use Rattle.slice_group_stream.specs.Streams.{kept_of}
use Rattle.example_counts.proofs.counts.stream_questions.Given as goal

abbrev pub invariant-loop-block : goal.invariant-loop-block
invariant-loop-block l =
    (kept_of l.stream ≡ last (flat_map (λ block. block.now) (take l.block-index l.blocks)))
    × (length (flat_map (λ block. block.now) (take l.block-index l.blocks)) ≤ 2 ^ 64
    → l.count ≡ length (flat_map (λ block. block.now) (take l.block-index l.blocks)) - 1)
