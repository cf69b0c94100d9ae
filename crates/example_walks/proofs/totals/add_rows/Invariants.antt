use Rattle.std.proofs.Common.{◌≡◌}
use Rattle.std.specs.List.{fold}
use Rattle.slice_group_stream.specs.Streams.{add_part}
use Rattle.example_walks.specs.Totals.{larger_total, total_of}
use Rattle.example_walks.proofs.totals.add_rows.Given as goal

abbrev pub invariant-loop-begins : goal.invariant-loop-begins
invariant-loop-begins l = l.found.items ≡ fold (λ found x. add_part total_of larger_total found (x.0, x.1.now)) l.initial.found.items l.yielded
