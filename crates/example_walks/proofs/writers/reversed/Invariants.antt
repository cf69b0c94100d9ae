use Rattle.std.proofs.Common.{length, map, reverse, nat_eq}
use Rattle.slice_group_by.specs.Loans.{NotedSoFar}
use Rattle.slice_group_by.specs.Split.{concat, split}
use Rattle.example_walks.proofs.writers.reversed.Given as goal

abbrev pub invariant-loop-group : goal.invariant-loop-group
invariant-loop-group l =
    NotedSoFar (λ xs. concat (map reverse (split nat_eq xs))) l.initial.groups.loans.root l.initial.groups.remainder
    l.groups.loans l.groups.remainder

abbrev pub decreases-loop-group : goal.decreases-loop-group
decreases-loop-group l = length l.groups.remainder
