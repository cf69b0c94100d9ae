use Rattle.std.proofs.Common.{◌≤◌, map, nat_eq, length}
use Rattle.slice_group_by.specs.Judges.{by_key}
use Rattle.slice_group_by.specs.Searching.{IsSettledApart}
use Rattle.slice_group_by.specs.Gives.{groups_of_mut}
use Rattle.slice_group_by.specs.Loans.{NotedSoFar}
use Rattle.slice_group_by.specs.Split.{split, concat}
use Rattle.example_counts.specs.Keys.{same_key}
use Rattle.example_counts.specs.Totals.{total, kept}
use Rattle.example_counts.proofs.totals.totals_kept.Given as goal

abbrev pub invariant-loop-group : goal.invariant-loop-group
invariant-loop-group g l = record {
  settled : IsSettledApart (by_key g.F.FnMut nat_eq) (groups_of_mut l.groups) same_key;
  fits : total l.groups.remainder ≤ 4294967295;
  noted : NotedSoFar (λ xs. concat (map kept (split same_key xs))) l.initial.groups.loans.root l.initial.groups.remainder l.groups.loans
      l.groups.remainder;
}

abbrev pub decreases-loop-group : goal.decreases-loop-group
decreases-loop-group g l = length l.groups.remainder
