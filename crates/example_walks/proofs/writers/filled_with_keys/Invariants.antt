use Rattle.std.proofs.Common.{◌≡◌, ◌++◌, [], map, nat_eq, length}
use Rattle.slice_group_by.specs.Gives.{groups_of_mut}
use Rattle.slice_group_by.specs.Judges.{by_key}
use Rattle.slice_group_by.specs.Linear.{IsSettled}
use Rattle.example_walks.specs.Tens.{same_tens, tens}
use Rattle.example_walks.proofs.writers.filled_with_keys.Given as goal

abbrev pub invariant-loop-group : goal.invariant-loop-group
invariant-loop-group g l = record {
  settled : IsSettled (by_key g.F.FnMut nat_eq) (groups_of_mut l.groups) same_tens;
  root : l.groups.loans.root ≡ l.initial.groups.loans.root;
  cuts : l.groups.loans.cuts ≡ [];
  after : l.groups.loans.after ≡ [];
  done : l.groups.loans.before ++ map tens l.groups.remainder ≡ map tens l.initial.groups.remainder;
}

abbrev pub decreases-loop-group : goal.decreases-loop-group
decreases-loop-group g l = length l.groups.remainder
