use Rattle.std.proofs.Common.{length, map, nat_eq, ◌≡◌, ◌+◌, ◌≤◌}
use Rattle.std.specs.Prelude.{count_by}
use Rattle.slice_group_by.specs.Loans.{NotedSoFar}
use Rattle.slice_group_by.specs.Split.{concat, split}
use Rattle.example_walks.specs.LongGroups.{is_long, cleared_if_long}
use Rattle.example_walks.proofs.writers.long_cleared.Given as goal

abbrev pub invariant-loop-group : goal.invariant-loop-group
invariant-loop-group l = record {
  noted : NotedSoFar (λ xs. concat (map (cleared_if_long l.max_len) (split nat_eq xs))) l.initial.groups.loans.root
      l.initial.groups.remainder l.groups.loans l.groups.remainder;
  counted : l.count + count_by (is_long l.max_len) (split nat_eq l.groups.remainder)
      ≡ count_by (is_long l.max_len) (split nat_eq l.initial.groups.remainder);
  fits : l.count + length l.groups.remainder ≤ length l.initial.groups.remainder;
}

abbrev pub decreases-loop-group : goal.decreases-loop-group
decreases-loop-group l = length l.groups.remainder
