use Rattle.std.proofs.Common.{arith}
use Rattle.sgb_numbers.proofs.Reversed.{same_reverse}
use Rattle.slice_group_simd.proofs.Known.{front_wider, front_same}
use Rattle.slice_group_simd.proofs.fills.more_back.Goals as goal

pub returns-then-back-eq0-clause-start : goal.returns-then-back-eq0-clause-start
returns-then-back-eq0-clause-start g c =
    let all = c.mask_before-back.ensures.all c.if-back-eq0.true in
    record {
      nonempty = c.requires.order;
      within = omega arith;
      same = same_reverse g.M.Masks.same g.met.M.Masks.laws.symm c.args.slice.now _ _ _ _ (omega (arith, all)) (omega arith)
          (front_same c.if-back-eq0.true (front_wider c.requires.mask c.mask_before-back.ensures.mask (omega arith) (omega arith)));
      differ = λ more. absurd (omega arith);
    }
