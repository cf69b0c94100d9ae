use Rattle.std.proofs.Common.{◌≡◌, flat_map, map, take}
use Rattle.slice_group_simd.specs.Counted.{same_class}
use Rattle.slice_group_by.specs.Split.{last, split}
use Rattle.slice_group_stream.specs.Streams.{kept_of}
use Rattle.example_walks.proofs.tokens.tokens_of_blocks.Given as goal

abbrev pub invariant-loop-block : goal.invariant-loop-block
invariant-loop-block l =
    let came = flat_map (λ block. block.now) (take l.block-index l.blocks) in
    (kept_of l.stream ≡ last came) × (map (λ token. token.items) l.tokens.items ≡ split same_class came)
