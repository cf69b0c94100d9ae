use Rattle.std.proofs.Common.{◌≡◌}
use Rattle.std.specs.List.{fold}
use Rattle.slice_group_stream.specs.Streams.{add_values, of_nonempty}
use Rattle.example_walks.specs.Runs.{longer_run, run_of}
use Rattle.example_walks.proofs.streams.add_block.Given as goal

abbrev pub invariant-loop-begins : goal.invariant-loop-begins
invariant-loop-begins g l =
    l.runs.items ≡ fold (λ runs x. add_values (of_nonempty run_of) longer_run runs (x.0, x.1.now)) l.initial.runs.items l.yielded
