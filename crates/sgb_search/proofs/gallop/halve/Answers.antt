use Rattle.std.proofs.Common.{refl, inl, inr}
use Rattle.sgb_search.proofs.Searches.Halving.{narrows_may, lower_middle, narrows_found, narrows_step, narrows_end}
use Rattle.sgb_search.proofs.gallop.halve.Goals.{then-is_lt, else-is_lt, then-is_gt, else-is_gt}
use Rattle.sgb_search.proofs.gallop.halve.Goals as goal

pub compare-order-requires : goal.compare-order-requires
compare-order-requires g c =
    let n = c.loop-from.invariant in
    narrows_may _ _ _ _ _ _ _ _ _ _ n c.requires.callable _ (lower_middle _ _ _ _ _ _ _ _ _ _ n c.loop-from-test.true)

pub returns-then-is_eq : goal.returns-then-is_eq
returns-then-is_eq g c =
    let n = c.loop-from.invariant in
    let b = lower_middle _ _ _ _ _ _ _ _ _ _ n c.loop-from-test.true in
    narrows_found _ _ _ _ _ _ _ _ _ _ n _ _ b (narrows_may _ _ _ _ _ _ _ _ _ _ n c.requires.callable _ b) c.compare-order.ensures.0
    c.compare-order.ensures.1 _ c.compare-order.ensures.2 c.if-is_eq.ensures

pub loop-from-preserved : goal.loop-from-preserved
loop-from-preserved g c =
    let n = c.loop-from.invariant in
    let b = lower_middle _ _ _ _ _ _ _ _ _ _ n c.loop-from-test.true in
    narrows_step _ _ _ _ _ _ _ _ _ _ n _ _ b (narrows_may _ _ _ _ _ _ _ _ _ _ n c.requires.callable _ b) c.compare-order.ensures.0
    c.compare-order.ensures.1 refl _ c.compare-order.ensures.2 c.if-is_eq.ensures _ _
    (elim c.if-is_lt.branch [ then-is_lt w ↦ inl (w.if-is_lt.ensures, w.from-is) | else-is_lt w ↦ inr (w.if-is_lt.ensures, w.from-is) ])
    (elim c.if-is_gt.branch [ then-is_gt w ↦ inl (w.if-is_gt.ensures, w.upto-is) | else-is_gt w ↦ inr (w.if-is_gt.ensures, w.upto-is) ])

pub returns : goal.returns
returns g c = narrows_end _ _ _ _ _ _ _ _ _ _ c.loop-from.invariant c.loop-from-test.false
