use Rattle.std.proofs.Common.{arith}
use Rattle.slice_group_by.proofs.Questions.Adversary.{to_more, to_less, at_high}
use Rattle.slice_group_by.proofs.laws.plans.refute.Goals as goal

pub loop-current-preserved-then-place-low : goal.loop-current-preserved-then-place-low
loop-current-preserved-then-place-low c =
    let w = c.loop-current.invariant in
    to_more c.in-Ask.place _ _ _ _ _ c.in-Ask.is _ _ _ _ _ w.1 _ c.deref-current.ensures _ (omega arith) w.1.order.1 (omega arith)
    (omega arith)

pub loop-current-preserved-then-place-high : goal.loop-current-preserved-then-place-high
loop-current-preserved-then-place-high c =
    let w = c.loop-current.invariant in
    to_less c.in-Ask.place _ _ _ _ _ c.in-Ask.is _ _ _ _ _ w.1 _ c.deref-current-then-place-high.ensures _ w.1.order.1 (omega arith)
    (omega arith) (omega arith)

pub loop-current-preserved-then-high-place : goal.loop-current-preserved-then-high-place
loop-current-preserved-then-high-place c =
    let w = c.loop-current.invariant in
    to_more c.in-Ask.place _ _ _ _ _ c.in-Ask.is _ _ _ _ _ w.1 _ c.deref-current-then-high-place.ensures _ (omega arith) (omega arith)
    (omega arith) (omega arith)

pub loop-current-preserved : goal.loop-current-preserved
loop-current-preserved c =
    let w = c.loop-current.invariant in
    to_less c.in-Ask.place _ _ _ _ _ c.in-Ask.is _ _ _ _ _ w.1 _ c.deref-current-else-high-place.ensures _ (omega arith) (omega arith)
    (omega arith) (omega arith)

pub returns-in-Answer-clause-refuted : goal.returns-in-Answer-clause-refuted
returns-in-Answer-clause-refuted c =
    let w = c.loop-current.invariant in
    at_high _ _ _ _ _ _ _ c.in-Answer.is w.1 c.if-answer-low.true
