use Rattle.std.proofs.Common.{◌≡◌, map}
use Rattle.std.specs.List.{fold}
use Rattle.slice_group_stream.specs.Streams.{with_part}
use Rattle.example_walks.proofs.tokens.add_block.Given as goal

abbrev pub invariant-loop-begins : goal.invariant-loop-begins
invariant-loop-begins l =
    map (λ token. token.items) l.tokens.items
    ≡ fold (λ tokens x. with_part tokens (x.0, x.1.now)) (map (λ token. token.items) l.initial.tokens.items) l.yielded
