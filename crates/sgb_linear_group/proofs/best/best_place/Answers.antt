use Rattle.std.proofs.Common.{refl, sym, ◌∙◌, arith}
use Rattle.std.proofs.lemmas.Option.{slice_get_read}
use denote.Param.Always.{mut_next}
use Rattle.std.specs.Fn.{CalledAtTwo}
use Rattle.sgb_linear_group.proofs.BestOf.{keeps_more, range_more, range_of_one, stands_at}
use Rattle.sgb_linear_group.proofs.best.best_place.Goals as goal
use Rattle.sgb_linear_group.proofs.best.best_place.Goals.{then-is_worse, else-is_worse}

pub loop-i-init : goal.loop-i-init
loop-i-init g c =
    let xs = c.args.slice.now in
    let low = c.args.low in
    let x = stands_at xs low (omega (arith, c.requires)) in
    (omega arith, omega arith, c.requires.callable, (x.0, x.1, rw (range_of_one xs low x.0 x.1) (refl, refl)))

pub loop-i-preserved : goal.loop-i-preserved
loop-i-preserved g c =
    let xs = c.args.slice.now in
    let i = c.loop-i.invariant in
    let inside = c.loop-i-test.true in
    let at_i = slice_get_read xs _ c.loop-i.i _ refl (omega (arith, inside, c.requires)) c.index-slice-i.is in
    let at_place = slice_get_read xs _ c.loop-i.place _ refl (omega (arith, i.1, inside, c.requires)) c.index-slice-place.is in
    let answer : CalledAtTwo g.B.FnMut c.loop-i.is_worse i.3.0 _ _ _ =
    record { first = _; second = _; shows = (cc (sym at_place ∙ i.3.1), refl); called = c.is_worse.ensures } in
    let more = keeps_more (CalledAtTwo g.B.FnMut) _ _ _ _ _ _ _ i.3.2 answer in (
      elim c.if-is_worse.branch [ then-is_worse w ↦ omega (arith, w.place-is, i) | else-is_worse w ↦ omega (arith, w.place-is, i) ],
      elim c.if-is_worse.branch [ then-is_worse w ↦ omega (arith, w.place-is, i) | else-is_worse w ↦ omega (arith, w.place-is, i) ],
      mut_next g.B.FnMut _ _ _ _ _ c.is_worse.ensures refl i.2,
      rw (range_more xs c.args.low c.loop-i.i _ (omega (arith, i.0, i.1)) at_i)
          (elim c.if-is_worse.branch [
            | then-is_worse w ↦ rw (w.place-is) (_, at_i, rw (w.if-is_worse.true) at more)
            | else-is_worse w ↦ rw (w.place-is) (_, i.3.1, rw (w.if-is_worse.false) at more)
          ]),
    )
