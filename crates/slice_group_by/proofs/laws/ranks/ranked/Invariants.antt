use Rattle.std.proofs.Common.{length, ◌≡◌, ◌≤◌, ◌+◌, ◌++◌, nat_eq, []}
use Rattle.sgb_split.specs.Split.{split}
use Rattle.sgb_split.specs.Linear.{IsSettled}
use Rattle.sgb_groups.specs.Gives.{groups_of_mut}
use Rattle.sgb_split.specs.Judges.{by_equality}
use Rattle.slice_group_by.specs.Ranks.{ranks}
use Rattle.slice_group_by.proofs.Pieces.Ranks.{numbered}
use Rattle.slice_group_by.proofs.laws.ranks.ranked.Given as goal

abbrev pub invariant-loop-group : goal.invariant-loop-group
invariant-loop-group l = record {
  settled : IsSettled (by_equality nat_eq) (groups_of_mut l.groups) nat_eq;
  root : l.groups.loans.root ≡ l.initial.groups.loans.root;
  cuts : l.groups.loans.cuts ≡ [];
  after : l.groups.loans.after ≡ [];
  ranked : l.groups.loans.before ++ numbered l.rank (split nat_eq l.groups.remainder) ≡ ranks nat_eq l.initial.groups.remainder;
  counted : l.rank ≤ length l.groups.loans.before;
  kept : length l.groups.loans.before + length l.groups.remainder ≡ length l.initial.groups.remainder;
}

abbrev pub decreases-loop-group : goal.decreases-loop-group
decreases-loop-group l = length l.groups.remainder
