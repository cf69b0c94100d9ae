use Rattle.std.proofs.Common.{◌≡◌, ◌+◌, ◌-◌, ◌^◌, min, take}
use Rattle.std.specs.List.{sum_by}
use Rattle.example_walks.specs.Totals.{amount}
use Rattle.example_walks.proofs.totals.sum_from.Given as goal

abbrev pub invariant-loop-row : goal.invariant-loop-row
invariant-loop-row l = l.sum ≡ min (l.fn.start + sum_by amount (take l.row-index l.part)) (2 ^ 64 - 1)
