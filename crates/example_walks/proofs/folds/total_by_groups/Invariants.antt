use Rattle.std.proofs.Common.{◌≡◌, map, sum_by}
use Rattle.example_walks.proofs.folds.total_by_groups.Given as goal

abbrev pub invariant-loop-group : goal.invariant-loop-group
invariant-loop-group l = l.total ≡ sum_by (sum_by (λ x. x)) (map (λ group. group.now) l.yielded)
