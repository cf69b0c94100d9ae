use Rattle.std.proofs.Common.{◌≡◌, flat_map, map, take}
use Rattle.std.specs.Prelude.{option_map}
use Rattle.slice_group_by.specs.Split.{last, split}
use Rattle.slice_group_stream.specs.Streams.{kept_of}
use Rattle.example_walks.specs.Totals.{key, same_key, total_of}
use Rattle.example_walks.proofs.totals.totals_of_blocks.Given as goal

abbrev pub invariant-loop-block : goal.invariant-loop-block
invariant-loop-block l =
    let came = flat_map (λ block. block.now) (take l.block-index l.blocks) in
    (kept_of l.stream ≡ option_map key (last came))
    × (l.found.items ≡ map total_of (split same_key came))
