use Rattle.std.proofs.Common.{◌≡◌, ◌++◌, length, map, reverse}
use Rattle.slice_group_by.specs.Gives.{groups_of}
use Rattle.slice_group_by.specs.Judges.{by_equality}
use Rattle.slice_group_by.specs.Linear.{IsSettled}
use Rattle.slice_group_by.specs.Split.{split}
use Rattle.example_walks.proofs.equal_groups.in_turn.Given as goal

abbrev pub invariant-loop-front : goal.invariant-loop-front
invariant-loop-front g l = record {
  settled : IsSettled (by_equality g.T.PartialEq.eq) (groups_of l.groups) g.T.PartialEq.eq;
  pieces : map (λ g. g.now) l.fronts.items
      ++ (split g.T.PartialEq.eq (groups_of l.groups).remainder ++ reverse (map (λ g. g.now) l.backs.items))
      ≡ split g.T.PartialEq.eq l.xs;
}

abbrev pub decreases-loop-front : goal.decreases-loop-front
decreases-loop-front g l = length (groups_of l.groups).remainder
