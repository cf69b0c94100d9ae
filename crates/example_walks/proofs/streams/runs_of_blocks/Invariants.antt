use Rattle.std.proofs.Common.{◌≡◌, flat_map, take}
use Rattle.slice_group_by.specs.Split.{last, split}
use Rattle.slice_group_stream.specs.Streams.{kept_of, of_nonempty}
use Rattle.example_walks.specs.Runs.{run_of}
use Rattle.example_walks.proofs.streams.runs_of_blocks.Given as goal

abbrev pub invariant-loop-block : goal.invariant-loop-block
invariant-loop-block g l =
    let came = flat_map (λ block. block.now) (take l.block-index l.blocks) in
    (kept_of l.stream ≡ last came)
    × (l.runs.items ≡ flat_map (of_nonempty run_of) (split g.T.PartialEq.eq came))
