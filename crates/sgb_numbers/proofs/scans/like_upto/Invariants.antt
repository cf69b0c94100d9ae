use Rattle.std.proofs.Common.{◌-◌, ◌≤◌}
use Rattle.sgb_numbers.specs.Numbers.{AreLike}
use Rattle.sgb_numbers.proofs.scans.like_upto.Given as goal

abbrev pub invariant-loop-all : goal.invariant-loop-all
invariant-loop-all g l = record {
  least : l.len ≤ l.all;
  most : l.all ≤ l.most;
  like : AreLike g.M.Masks.same l.number l.slice (l.high - l.all) (l.high - l.len);
}

abbrev pub decreases-loop-all : goal.decreases-loop-all
decreases-loop-all g l = l.most - l.all
