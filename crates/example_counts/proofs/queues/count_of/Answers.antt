use Rattle.std.proofs.Common.{arith, ap, length}
use Rattle.slice_group_by.specs.End.TheVariants.{Front}
use Rattle.example_counts.proofs.queues.count_of.Goals as goal

pub overflow_add-count : goal.overflow_add-count
overflow_add-count g c =
    omega (arith, c.loop-count.invariant.within, c.requires.fits, c.calls_take_pieces.ensures.shorter Front _ _ _ c.in-Some.ensures.gives)

pub loop-count-preserved-in-Some : goal.loop-count-preserved-in-Some
loop-count-preserved-in-Some g c =
    let i = c.loop-count.invariant in
    let laws = c.calls_take_pieces.ensures in
    record {
      can = c.pop_front.ensures.can;
      within = omega (arith, i.within, laws.shorter Front _ _ _ c.in-Some.ensures.gives);
      settled = λ p h. laws.settled p Front _ _ _ c.in-Some.ensures.gives (i.settled p h);
      counted = λ p h. omega (arith, i.counted p h, ap length (laws.whole p Front _ _ _ c.in-Some.ensures.gives (i.settled p h)));
    }

pub returns : goal.returns
returns g c p h =
    omega (arith, c.loop-count.invariant.counted p h, ap length (c.calls_take_pieces.ensures.none p Front _ _ c.in_default.ensures.gives))
