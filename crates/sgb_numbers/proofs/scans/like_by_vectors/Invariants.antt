use Rattle.std.proofs.Common.{◌-◌, ◌≤◌}
use Rattle.sgb_numbers.specs.Numbers.{AreLike}
use Rattle.sgb_numbers.proofs.scans.like_by_vectors.Given as goal

abbrev pub invariant-loop-place : goal.invariant-loop-place
invariant-loop-place g l = record {
  low : l.low ≤ l.place;
  high : l.place ≤ l.high;
  like : AreLike g.M.Masks.same l.number l.slice l.low l.place;
}

abbrev pub decreases-loop-place : goal.decreases-loop-place
decreases-loop-place g l = l.high - l.place
