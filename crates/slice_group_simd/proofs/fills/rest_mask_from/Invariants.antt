use Rattle.std.proofs.Common.{◌-◌, ◌<◌, ◌≤◌}
use Rattle.slice_group_simd.specs.Masks.{FrontMask}
use Rattle.slice_group_simd.proofs.fills.rest_mask_from.Given as goal

abbrev pub invariant-loop-at : goal.invariant-loop-at
invariant-loop-at g l = record {
  after : l.from ≤ l.at;
  before : l.at < l.high;
  mask : FrontMask g.M.Masks.same l.slice l.from l.mask l.at;
}

abbrev pub decreases-loop-at : goal.decreases-loop-at
decreases-loop-at g l = l.high - l.at

abbrev pub invariant-loop-at-2 : goal.invariant-loop-at-2
invariant-loop-at-2 g l = record {
  after : l.from ≤ l.at;
  before : l.at < l.high;
  mask : FrontMask g.M.Masks.same l.slice l.from l.mask l.at;
}

abbrev pub decreases-loop-at-2 : goal.decreases-loop-at-2
decreases-loop-at-2 g l = l.high - l.at
