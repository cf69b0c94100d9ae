use Rattle.std.proofs.Common.{◌≡◌, ◌%◌, ◌^◌, sum, take}
use Rattle.example_walks.proofs.columns.sum_of.Given as goal

abbrev pub invariant-loop-value : goal.invariant-loop-value
invariant-loop-value l = l.sum ≡ sum (take l.value-index l.values) % 2 ^ 64
