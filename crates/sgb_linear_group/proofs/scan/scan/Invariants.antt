use Rattle.std.proofs.Common.{◌-◌, ◌<◌, ◌≤◌}
use Rattle.std.specs.Prelude.{slice_range}
use Rattle.sgb_split.specs.Questions.{IsCallable}
use Rattle.sgb_split.specs.Split.{from, neighbours, AreNeighbours}
use Rattle.sgb_split.proofs.Linear.Scanning.{Accepted}
use Rattle.sgb_linear_group.proofs.scan.scan.Given as goal

abbrev pub invariant-loop-len : goal.invariant-loop-len
invariant-loop-len g l = record {
  after : 0 < l.len;
  upto : l.len ≤ l.high - l.low;
  callable : IsCallable g.J.Judge.may_ask g.J.Judge.answers (AreNeighbours (slice_range l.slice l.low l.high)) l.judge;
  accepted : Accepted g.J.Judge.may_ask g.J.Judge.answers (from l.end (neighbours (slice_range l.slice l.low l.high))) l.initial.judge
      (l.len - 1) l.judge;
}

abbrev pub decreases-loop-len : goal.decreases-loop-len
decreases-loop-len g l = l.high - l.low - l.len
