use Rattle.std.proofs.Common.{◌-◌, ◌<◌, ◌≤◌}
use Rattle.slice_group_simd.specs.Masks.{FrontMask}
use Rattle.slice_group_simd.proofs.fills.mask_from.Given as goal

abbrev pub invariant-loop-at : goal.invariant-loop-at
invariant-loop-at g l = record {
  after : l.from ≤ l.at;
  before : l.at < l.high;
  none : FrontMask g.M.Masks.same l.slice l.from 0 l.at;
}

abbrev pub decreases-loop-at : goal.decreases-loop-at
decreases-loop-at g l = l.high - l.at
