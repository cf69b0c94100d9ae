use Rattle.std.proofs.Common.{length, map, nat_eq, replicate, get_or}
use Rattle.slice_group_by.specs.Loans.{NotedSoFar}
use Rattle.slice_group_by.specs.Split.{concat, split}
use Rattle.example_walks.proofs.writers.filled.Given as goal

abbrev pub invariant-loop-group : goal.invariant-loop-group
invariant-loop-group l =
    NotedSoFar (λ xs. concat (map (λ g. replicate (length g) (get_or g 0 0)) (split nat_eq xs))) l.initial.groups.loans.root
    l.initial.groups.remainder l.groups.loans l.groups.remainder

abbrev pub decreases-loop-group : goal.decreases-loop-group
decreases-loop-group l = length l.groups.remainder
