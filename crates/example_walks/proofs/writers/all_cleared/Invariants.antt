use Rattle.std.proofs.Common.{◌≡◌, ◌++◌, [], length, replicate}
use Rattle.example_walks.proofs.writers.all_cleared.Given as goal

abbrev pub invariant-loop-group : goal.invariant-loop-group
invariant-loop-group l = record {
  root : l.groups.loans.root ≡ l.initial.groups.loans.root;
  before : l.groups.loans.before ≡ [];
  cuts : l.groups.loans.cuts ≡ [];
  cleared : replicate (length l.groups.remainder) 0 ++ l.groups.loans.after ≡ replicate (length l.initial.groups.remainder) 0;
}

abbrev pub decreases-loop-group : goal.decreases-loop-group
decreases-loop-group l = length l.groups.remainder
