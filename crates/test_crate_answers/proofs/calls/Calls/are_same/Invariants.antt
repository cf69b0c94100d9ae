use Rattle.test_crate_answers.proofs.calls.Calls.are_same.Given as goal

abbrev pub invariant-loop-end : goal.invariant-loop-end
invariant-loop-end g l = g.Q.GroupQueue.can_pop l.queue
