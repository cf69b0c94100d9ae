use Rattle.std.proofs.Common.{◌≡◌, sum_by, take}
use Rattle.example_walks.proofs.folds.sum.Given as goal

abbrev pub invariant-loop-x : goal.invariant-loop-x
invariant-loop-x l = l.sum ≡ sum_by (λ x. x) (take l.x-index l.group)
