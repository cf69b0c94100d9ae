use Rattle.std.proofs.Common.{◌-◌, ◌≤◌, replicate}
use Rattle.std.specs.Io.KnownBytes.{Appends}
use Rattle.run_length_coder.proofs.runs.Run.write_bytes.Given as goal

abbrev pub invariant-loop-left : goal.invariant-loop-left
invariant-loop-left g l = record {
  within : l.left ≤ l.fn.self.count;
  written : Appends (g.W.Write.contents l.initial.out) (g.W.Write.contents l.out) (replicate (l.fn.self.count - l.left) l.fn.self.byte);
}

abbrev pub decreases-loop-left : goal.decreases-loop-left
decreases-loop-left g l = l.left
