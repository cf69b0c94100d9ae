use Rattle.std.proofs.Common.{◌≡◌, length, take}
use Rattle.slice_group_by.specs.Walk.{IsChain}
use Rattle.slice_group_by.proofs.laws.queue.walk.Given as goal

abbrev pub invariant-loop-i : goal.invariant-loop-i
invariant-loop-i g l = record {
  can : g.Q.GroupQueue.can_pop l.queue;
  len : length l.out ≡ length l.ends;
  chain : IsChain g.Q.GroupQueue.gives l.initial.queue (take l.i l.ends) (take l.i l.out) l.queue;
}
