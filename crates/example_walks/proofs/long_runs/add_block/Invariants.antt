use Rattle.std.proofs.Common.{◌≡◌}
use Rattle.std.specs.List.{fold}
use Rattle.slice_group_stream.specs.Closing.{take_part}
use Rattle.example_walks.specs.LongRuns.{long, longer, run}
use Rattle.example_walks.proofs.long_runs.add_block.Given as goal

abbrev pub invariant-loop-begins : goal.invariant-loop-begins
invariant-loop-begins l = (l.found.items, l.current)
    ≡ fold (λ m x. take_part run longer (long l.least) m (x.0, x.1.now)) (l.initial.found.items, l.initial.current) l.yielded
