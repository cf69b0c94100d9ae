use Rattle.std.proofs.Common.{◌≡◌, ◌+◌, ◌≤◌, length}
use Rattle.slice_group_by.specs.Gives.{groups_of}
use Rattle.example_walks.proofs.equal_groups.count_groups.Given as goal

abbrev pub invariant-loop-group : goal.invariant-loop-group
invariant-loop-group g l = record {
  counted : l.count ≡ length l.yielded;
  within : l.count + length (groups_of l._group-iterator).remainder ≤ length l.xs;
}
