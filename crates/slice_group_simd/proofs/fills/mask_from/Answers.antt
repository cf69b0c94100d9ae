use Rattle.std.proofs.Common.{refl, sym, ◌∙◌, arith}
use Rattle.slice_group_simd.proofs.Known.{front_wider, front_block}
use Rattle.slice_group_simd.proofs.fills.mask_from.Goals as goal

pub returns-then-mask-ne0-2-clause-mask : goal.returns-then-mask-ne0-2-clause-mask
returns-then-mask-ne0-2-clause-mask g c =
    let l = c.loop-at.invariant in
    front_wider l.none (front_block refl (omega arith) c.block-mask.ensures) l.after (omega arith)

pub loop-at-preserved : goal.loop-at-preserved
loop-at-preserved g c =
    let l = c.loop-at.invariant in
    let none = sym c.if-mask-ne0-2.false ∙ c.block-mask.ensures in
    record {
      after = omega arith;
      before = omega arith;
      none = front_wider l.none (front_block refl (omega arith) none) l.after (omega arith);
    }

pub returns-then-mask-ne0-clause-mask : goal.returns-then-mask-ne0-clause-mask
returns-then-mask-ne0-clause-mask g c = rw c.if-from-eq0.true c.grown-mask.ensures
