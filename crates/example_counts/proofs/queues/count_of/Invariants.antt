use Rattle.std.proofs.Common.{◌≡◌, ◌+◌, ◌≤◌, length}
use Rattle.slice_group_by.specs.Split.{split}
use Rattle.example_counts.proofs.queues.count_of.Given as goal

abbrev pub invariant-loop-count : goal.invariant-loop-count
invariant-loop-count g l = record {
  can : g.Q.GroupQueue.can_pop l.queue;
  within : l.count + length (g.Q.GroupQueue.remainder l.queue) ≤ length (g.Q.GroupQueue.remainder l.initial.queue);
  settled : (p : _) → g.Q.GroupQueue.is_settled l.initial.queue p → g.Q.GroupQueue.is_settled l.queue p;
  counted : (p : _) → g.Q.GroupQueue.is_settled l.initial.queue p
      → l.count + length (split p (g.Q.GroupQueue.remainder l.queue)) ≡ length (split p (g.Q.GroupQueue.remainder l.initial.queue));
}

abbrev pub decreases-loop-count : goal.decreases-loop-count
decreases-loop-count g l = length (g.Q.GroupQueue.remainder l.queue)
