use Rattle.std.proofs.Common.{◌≡◌, ℕ, ◌<◌, List, map, nat_eq, vec_len}
use Rattle.std.specs.Io.KnownBytes.{Consumes}
use Rattle.slice_group_stream.specs.Split.{last, split}
use Rattle.slice_group_stream.specs.Streams.{kept_of}
use Rattle.run_length_coder.specs.Coding.{run_of, Written}
use Rattle.run_length_coder.proofs.encoder.encode.Given as goal

abbrev pub invariant-loop : goal.invariant-loop
invariant-loop g l = (bytes : List ℕ) × Consumes (g.R.Read.remaining l.initial.input) (g.R.Read.remaining l.input) bytes
    × (kept_of l.stream ≡ last bytes)
    × Written (g.W.Write.contents l.initial.out) (g.W.Write.contents l.out) (map run_of (split nat_eq bytes)) l.byte l.count
    × (0 < vec_len l.block)
