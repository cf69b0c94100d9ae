use Rattle.std.proofs.Common.{flat_map, nat_eq, take}
use Rattle.slice_group_stream.specs.Streams.{kept_of}
use Rattle.slice_group_stream.specs.Closing.{ClosedSoFar}
use Rattle.example_walks.specs.LongRuns.{long, run}
use Rattle.example_walks.proofs.long_runs.long_runs.Given as goal

abbrev pub invariant-loop-block : goal.invariant-loop-block
invariant-loop-block l = ClosedSoFar nat_eq run (long l.least) (kept_of l.stream) l.found.items l.current
    (flat_map (λ block. block.now) (take l.block-index l.blocks))
