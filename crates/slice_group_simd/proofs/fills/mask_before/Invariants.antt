use Rattle.std.proofs.Common.{◌+◌, ◌≤◌}
use Rattle.slice_group_simd.specs.Masks.{BackMask}
use Rattle.slice_group_simd.proofs.fills.mask_before.Given as goal

abbrev pub invariant-loop-at : goal.invariant-loop-at
invariant-loop-at g l = record {
  after : l.low ≤ l.at;
  before : l.at ≤ l.upto;
  none : BackMask g.M.Masks.same l.slice (l.upto + 1) 0 l.at;
}

abbrev pub decreases-loop-at : goal.decreases-loop-at
decreases-loop-at g l = l.at
