use Rattle.std.proofs.Common.{refl, arith}
use Rattle.slice_group_simd.proofs.Known.{front_grown}
use Rattle.slice_group_simd.proofs.Marks.{mask_one}
use Rattle.slice_group_simd.proofs.fills.rest_mask_from.Goals as goal

pub loop-at-2-preserved : goal.loop-at-2-preserved
loop-at-2-preserved g c =
    let l = c.loop-at-2 in
    record {
      after = omega arith;
      before = omega arith;
      mask = front_grown 1 63 refl l.auto.mask-fits.fits l.invariant.after refl (omega arith) (omega arith) l.invariant.mask
          (mask_one g.M.Masks.same c.args.slice.now l.at _ (omega arith) c.cut.ensures);
    }
