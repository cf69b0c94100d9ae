use Rattle.std.proofs.Common.{◌-◌, arith, rules}
use Rattle.sgb_numbers.proofs.Sixteen.{like_then, like_all, highest_below, unlike_highest, like_after}
use Rattle.sgb_numbers.proofs.scans.like_back_by_vectors.Goals as goal

pub overflow_add-result : goal.overflow_add-result
overflow_add-result g c =
    let few = highest_below g.M.Masks.same c.args.number.now c.args.slice.now (c.loop-place.place - 16) (omega arith) _
    c.unlike-unlike.ensures _ c.ilog2.ensures.power_le c.ilog2.ensures.next_power_gt in
    search rules

pub returns-then-unlike-ne0-clause-high : goal.returns-then-unlike-ne0-clause-high
returns-then-unlike-ne0-clause-high g c =
    omega (
      arith,
      highest_below g.M.Masks.same c.args.number.now c.args.slice.now (c.loop-place.place - 16) (omega arith) _
          c.unlike-unlike.ensures c.ilog2.result c.ilog2.ensures.power_le c.ilog2.ensures.next_power_gt,
    )

pub returns-then-unlike-ne0-clause-like : goal.returns-then-unlike-ne0-clause-like
returns-then-unlike-ne0-clause-like g c =
    like_then _ _ _ _ _ _
    (like_after g.M.Masks.same c.args.number.now c.args.slice.now (c.loop-place.place - 16) (omega arith) _ c.unlike-unlike.ensures
    c.ilog2.result c.ilog2.ensures.power_le c.ilog2.ensures.next_power_gt _ _ (omega arith) (omega arith)) c.loop-place.invariant.like

pub loop-place-preserved : goal.loop-place-preserved
loop-place-preserved g c = record {
  low = omega arith;
  high = omega arith;
  like =
      like_then _ _ _ _ _ _
      (like_all g.M.Masks.same c.args.number.now c.args.slice.now (c.loop-place.place - 16) (omega arith) _ c.unlike-unlike.ensures _ _
      (omega arith) (omega arith) (omega arith)) c.loop-place.invariant.like;
}

pub returns-then-unlike-ne0-clause-unlike : goal.returns-then-unlike-ne0-clause-unlike
returns-then-unlike-ne0-clause-unlike g c before =
    unlike_highest g.M.Masks.same c.args.number.now c.args.slice.now (c.loop-place.place - 16) (omega arith) _
    c.unlike-unlike.ensures c.ilog2.result c.ilog2.ensures.power_le c.ilog2.ensures.next_power_gt _ (omega arith)
