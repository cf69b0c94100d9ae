use Rattle.std.proofs.Common.{◌≡◌, ◌+◌, ◌≤◌, length, nat_eq}
use Rattle.slice_group_by.specs.Gives.{groups_of}
use Rattle.slice_group_by.specs.Judges.{by_equality}
use Rattle.slice_group_by.specs.Linear.{IsSettled}
use Rattle.slice_group_by.specs.Split.{split}
use Rattle.example_walks.proofs.folds.count_by_calls.Given as goal

abbrev pub invariant-loop-count : goal.invariant-loop-count
invariant-loop-count l = record {
  settled : IsSettled (by_equality nat_eq) (groups_of l.groups) nat_eq;
  counted : l.count + length (split nat_eq (groups_of l.groups).remainder) ≡ length (split nat_eq l.xs);
  fits : l.count + length (groups_of l.groups).remainder ≤ length l.xs;
}

abbrev pub decreases-loop-count : goal.decreases-loop-count
decreases-loop-count l = length (groups_of l.groups).remainder
