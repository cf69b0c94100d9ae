use Rattle.std.proofs.Common.{ℕ, List, flat_map}
use Rattle.std.specs.Io.KnownBytes.{Appends}
use Rattle.program_parts.specs.Said.{HasSaid}
use Rattle.run_length_coder.specs.Coding.{copies, run_in, runs_format}
use Rattle.run_length_coder.proofs.decoder.decode.Given as goal

abbrev pub invariant-loop : goal.invariant-loop
invariant-loop g l =
    (runs : List (ℕ × ℕ)) × Appends (g.W.Write.contents l.initial.out) (g.W.Write.contents l.out) (flat_map copies runs)
    × HasSaid run_in g.R.Read.remaining runs_format (g.R.Read.remaining l.fn.input) runs l.records
