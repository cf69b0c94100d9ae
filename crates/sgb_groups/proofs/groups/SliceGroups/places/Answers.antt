use Rattle.std.proofs.Common.{arith}
use Rattle.sgb_split.proofs.Lists.Between.{between_empty}
use Rattle.sgb_groups.specs.Gives.{lies_within}
use Rattle.sgb_groups.proofs.Cuts.{place_within}
use Rattle.sgb_groups.proofs.groups.SliceGroups.places.Goals as goal
use Rattle.sgb_groups.proofs.groups.SliceGroups.places.Goals.{else-self-via-then-self+else-self-2, else-self-via-else-self}

-- one of the two tests fails, where places in order within the slice would pass both
pub returns-else-self : goal.returns-else-self
returns-else-self g c =
    let xs = c.args.self.now.slice.now in
    between_empty (lies_within xs) xs _ _ (λ places. elim c.else-self.branch [
      | else-self-via-then-self+else-self-2 w ↦ omega (arith, place_within xs _ places.high_is)
      | else-self-via-else-self w ↦ omega arith
    ])
