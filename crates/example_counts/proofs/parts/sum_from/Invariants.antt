use Rattle.std.proofs.Common.{◌≡◌, ◌+◌, ◌-◌, ◌^◌, min, sum_by, take}
use Rattle.example_counts.proofs.parts.sum_from.Given as goal

abbrev pub invariant-loop-x : goal.invariant-loop-x
invariant-loop-x l = l.sum ≡ min (l.fn.start + sum_by (λ x. x) (take l.x-index l.part)) (2 ^ 64 - 1)
