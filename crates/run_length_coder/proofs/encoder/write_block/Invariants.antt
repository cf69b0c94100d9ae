use Rattle.std.proofs.Common.{ℕ, List, Option}
use Rattle.std.specs.List.{fold}
use Rattle.slice_group_stream.specs.Streams.{add_part}
use Rattle.run_length_coder.specs.Coding.{longer_run, run_of, Written}
use Rattle.run_length_coder.proofs.encoder.write_block.Given as goal

abbrev pub invariant-loop-begins : goal.invariant-loop-begins
invariant-loop-begins g l =
    (start : Option (List ℕ)) (runs : List (ℕ × ℕ)) → Written start (g.W.Write.contents l.initial.out) runs l.initial.byte l.initial.count
    → Written start (g.W.Write.contents l.out) (fold (λ runs x. add_part run_of longer_run runs
    (x.0, x.1.now)) runs l.yielded) l.byte l.count
