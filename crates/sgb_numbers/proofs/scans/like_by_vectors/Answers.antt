use Rattle.std.proofs.Common.{arith, rules}
use Rattle.sgb_numbers.proofs.Sixteen.{like_then, lanes_before, like_before, like_all, unlike_lowest}
use Rattle.sgb_numbers.proofs.scans.like_by_vectors.Goals as goal

pub returns-then-unlike-ne0-clause-like : goal.returns-then-unlike-ne0-clause-like
returns-then-unlike-ne0-clause-like g c =
    like_then _ _ _ _ _ _ c.loop-place.invariant.like
    (like_before g.M.Masks.same c.args.number.now c.args.slice.now c.loop-place.place (omega arith) _ c.unlike-unlike.ensures
    (omega arith))

pub returns-then-unlike-ne0-clause-unlike : goal.returns-then-unlike-ne0-clause-unlike
returns-then-unlike-ne0-clause-unlike g c before =
    unlike_lowest g.M.Masks.same c.args.number.now c.args.slice.now c.loop-place.place (omega arith) _ c.unlike-unlike.ensures (omega arith)

pub returns-then-unlike-ne0-clause-high : goal.returns-then-unlike-ne0-clause-high
returns-then-unlike-ne0-clause-high g c =
    omega (
      arith,
      lanes_before g.M.Masks.same c.args.number.now c.args.slice.now c.loop-place.place (omega arith) _
          c.unlike-unlike.ensures (omega arith),
    )

pub loop-place-preserved : goal.loop-place-preserved
loop-place-preserved g c = record {
  low = omega arith;
  high = omega arith;
  like =
      like_then _ _ _ _ _ _ c.loop-place.invariant.like
      (like_all g.M.Masks.same c.args.number.now c.args.slice.now c.loop-place.place (omega arith) _ c.unlike-unlike.ensures _ _
      (omega arith) (omega arith) (omega arith));
}

pub overflow_add-result : goal.overflow_add-result
overflow_add-result g c =
    let few = lanes_before g.M.Masks.same c.args.number.now c.args.slice.now c.loop-place.place (omega arith) _
    c.unlike-unlike.ensures (omega arith) in
    search rules
