use Rattle.std.proofs.Common.{refl, arith}
use Rattle.std.proofs.lemmas.List.{length-reverse}
use Rattle.slice_group_simd.proofs.Known.{front_grown}
use Rattle.slice_group_simd.proofs.fills.grown_back.Goals as goal

pub returns : goal.returns
returns g c =
    front_grown 16 48 refl c.ranges.mask.fits (omega arith) (omega arith) (omega arith)
    (omega (arith, length-reverse c.args.slice.now)) c.requires.mask c.cuts_back.ensures
