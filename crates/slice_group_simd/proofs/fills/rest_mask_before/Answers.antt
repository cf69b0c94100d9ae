use Rattle.std.proofs.Common.{◌-◌, length, refl, arith}
use Rattle.std.specs.Prelude.{reverse}
use Rattle.std.proofs.lemmas.List.{length-reverse}
use Rattle.sgb_numbers.proofs.Reversed.{differs_reverse}
use Rattle.slice_group_simd.proofs.Known.{front_grown}
use Rattle.slice_group_simd.proofs.Marks.{mask_one}
use Rattle.slice_group_simd.proofs.fills.rest_mask_before.Goals as goal

pub loop-at-2-preserved : goal.loop-at-2-preserved
loop-at-2-preserved g c =
    let eq = g.M.Masks.same in
    let xs = c.args.slice.now in
    let l = c.loop-at-2 in
    let turned = differs_reverse eq g.met.M.Masks.laws.symm xs (l.at - 1) (length xs - 1 - l.at) (omega arith) in
    record {
      after = omega arith;
      before = omega arith;
      mask = front_grown 1 63 refl l.auto.mask-fits.fits (omega arith) (omega arith) (omega arith) (omega (arith, length-reverse xs))
          l.invariant.mask (mask_one eq (reverse xs) (length xs - 1 - l.at) _ (omega (arith, length-reverse xs)) (rw turned c.cut.ensures));
    }
