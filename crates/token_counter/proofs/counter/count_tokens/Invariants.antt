use Rattle.std.proofs.Common.{ℕ, ◌<◌, List, vec_len}
use Rattle.std.specs.Io.KnownBytes.{Consumes}
use Rattle.slice_group_simd.specs.Counters.{HasTaken}
use Rattle.token_counter.proofs.counter.count_tokens.Given as goal

abbrev pub invariant-loop : goal.invariant-loop
invariant-loop g l =
    (text : List ℕ) × Consumes (g.R.Read.remaining l.initial.input) (g.R.Read.remaining l.input) text × HasTaken l.classes text
    × (0 < vec_len l.block)
