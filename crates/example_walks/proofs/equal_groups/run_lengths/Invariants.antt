use Rattle.std.proofs.Common.{◌≡◌, ◌+◌, ◌≤◌, length, map, take, drop}
use Rattle.slice_group_by.specs.Gives.{groups_of}
use Rattle.example_walks.proofs.equal_groups.run_lengths.Given as goal

abbrev pub invariant-loop-group : goal.invariant-loop-group
invariant-loop-group g l = record {
  counted : l.count ≡ length l.yielded;
  within : l.count + length (groups_of l.group-iterator).remainder ≤ length l.xs;
  written : take l.count l.out ≡ map length (map (λ group. group.now) l.yielded);
  rest : drop l.count l.out ≡ drop l.count l.initial.out;
}
