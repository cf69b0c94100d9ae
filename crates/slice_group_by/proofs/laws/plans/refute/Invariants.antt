use Rattle.std.proofs.Common.{ℕ}
use Rattle.slice_group_by.proofs.Questions.Adversary.{Narrowed}
use Rattle.slice_group_by.proofs.laws.plans.refute.Given as goal

abbrev pub invariant-loop-current : goal.invariant-loop-current
invariant-loop-current l = (k : ℕ) × Narrowed l.fn.plan l.n l.low l.high l.current k
