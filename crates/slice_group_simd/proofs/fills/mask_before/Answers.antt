use Rattle.std.proofs.Common.{sym, ◌∙◌, arith}
use Rattle.std.proofs.lemmas.List.{length-reverse}
use Rattle.slice_group_simd.proofs.Known.{front_wider, front_block}
use Rattle.slice_group_simd.proofs.fills.mask_before.Goals as goal

pub returns-then-mask-ne0-2-clause-mask : goal.returns-then-mask-ne0-2-clause-mask
returns-then-mask-ne0-2-clause-mask g c =
    front_wider c.loop-at.invariant.none
    (front_block (omega arith) (omega (arith, length-reverse c.args.slice.now)) c.block_back-mask.ensures) (omega arith) (omega arith)

pub loop-at-preserved : goal.loop-at-preserved
loop-at-preserved g c =
    let none = sym c.if-mask-ne0-2.false ∙ c.block_back-mask.ensures in
    record {
      after = omega arith;
      before = omega arith;
      none = front_wider c.loop-at.invariant.none (front_block (omega arith) (omega (arith, length-reverse c.args.slice.now)) none)
          (omega arith) (omega arith);
    }
