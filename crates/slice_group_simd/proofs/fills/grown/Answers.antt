use Rattle.std.proofs.Common.{refl}
use Rattle.slice_group_simd.proofs.Known.{front_grown}
use Rattle.slice_group_simd.proofs.fills.grown.Goals as goal

pub returns : goal.returns
returns g c =
    let r = c.requires in
    front_grown 16 48 refl c.ranges.mask.fits r.after refl r.fits r.inside r.mask c.cuts.ensures
