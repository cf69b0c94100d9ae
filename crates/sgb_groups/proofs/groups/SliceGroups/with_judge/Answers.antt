use Rattle.std.proofs.Common.{arith}
use Rattle.sgb_split.proofs.Lists.Between.{between_ends}
use Rattle.sgb_groups.specs.Gives.{lies_within}
use Rattle.sgb_groups.proofs.Cuts.{within_place}
use Rattle.sgb_groups.proofs.groups.SliceGroups.with_judge.Goals as goal

pub returns-clause-remainder : goal.returns-clause-remainder
returns-clause-remainder g c =
    let xs = c.args.slice.now in
    between_ends (lies_within xs) xs (within_place xs 0 (omega arith)) (within_place xs _ (omega arith))
