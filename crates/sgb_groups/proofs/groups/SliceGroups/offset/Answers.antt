use Rattle.std.proofs.Common.{length, refl, arith}
use Rattle.std.proofs.Math.Nat.{min-eq_left, min-le_right}
use Rattle.sgb_split.proofs.Lists.Places.{stands}
use Rattle.sgb_groups.specs.Gives.{lies_within}
use Rattle.sgb_groups.proofs.Cuts.{place_within}
use Rattle.sgb_groups.proofs.groups.SliceGroups.offset.Goals as goal

pub returns-clause-stands : goal.returns-clause-stands
returns-clause-stands g c =
    let s = c.args.self.now in
    let xs = s.slice.now in
    stands (lies_within xs) xs (place_within xs) s.low s.high _ (min-le_right s.low (length xs))
    (λ low_is. min-eq_left (place_within xs s.low low_is)) _ refl

pub returns-clause-fits : goal.returns-clause-fits
returns-clause-fits g c = omega (arith, (returns-clause-stands g c).within)
