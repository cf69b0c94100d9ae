use Rattle.std.proofs.Common.{arith}
use Rattle.std.proofs.lemmas.Nat.{mod_below}
use Rattle.grouped_report.proofs.Decimals.{push_end, push_step, tens_pos}
use Rattle.grouped_report.proofs.amount.push_digits.Goals as goal

pub loop-billionths-preserved : goal.loop-billionths-preserved
loop-billionths-preserved c = record {
  few = omega arith;
  below = rw c.pow-unit.ensures (mod_below _ _ (tens_pos _));
  same = push_step _ _ _ c.loop-billionths.places c.loop-billionths.billionths _ c.loop-billionths.invariant.below
      c.loop-billionths-test.true c.pow-unit.ensures c.in_ok-push.ensures.items c.loop-billionths.invariant.same;
}

pub returns : goal.returns
returns c = push_end _ _ c.loop-billionths.places c.loop-billionths.billionths (omega arith) c.loop-billionths.invariant.same
