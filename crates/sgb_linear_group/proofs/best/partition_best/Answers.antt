use Rattle.std.proofs.Common.{◌≡◌, ◌≤◌, ◌<◌, ◌+◌, ◌-◌, length, take, drop, Some, refl, sym, ap, ◌∙◌, arith, ℕ}
use Rattle.std.specs.Prelude.{slice_range}
use Rattle.std.specs.Fn.{CalledAtTwo}
use Rattle.std.proofs.lemmas.List.{drop_all, drop-drop, length-drop, take_all}
use Rattle.std.proofs.lemmas.List.Sorted.{IsPermutation-trans}
use Rattle.sgb_split.specs.Calls.{CallAt}
use Rattle.sgb_split.specs.Linear.{LinearQuestions}
use Rattle.sgb_split.specs.declared.end.End.TheVariants.{Front}
use Rattle.sgb_split.proofs.Linear.LinearQueue.{keeps}
use Rattle.sgb_linear_group.proofs.BestOf.{call_at, each_more, swapped_kept, swapped_rest, yields_more}
use Rattle.sgb_linear_group.proofs.best.partition_best.Goals as goal

pub loop-rest-preserved : goal.loop-rest-preserved
loop-rest-preserved g c =
    let xs = c.args.slice.now in
    let ys = c.loop-rest.slice in
    let rest = c.loop-rest.rest in
    let len = c.scan.result in
    let place = c.best_place-place.result in
    let i = c.loop-rest.invariant in
    let f = c.scan.ensures in
    let b = c.best_place-place.ensures in
    let s = c.swap.ensures in
    let whole : slice_range ys rest (length ys) ≡ drop rest xs =
    take_all (length ys - rest) (drop rest ys) (omega (arith, length-drop rest ys)) ∙ i.3 in
    let room : len ≤ length (slice_range ys rest (length ys)) = omega (arith, f.within, ap length whole, ap length i.3, length-drop rest ys) in
    let call = call_at (LinearQuestions g.J.Judge) xs _ rest len _ _ whole f.nonempty room f.asked in
    let order : c.loop-rest.kept ≤ place = omega (arith, i.0, b.low) in
    let inside : place < length ys = omega (arith, b.high, f.within) in
    let group : slice_range ys rest (rest + len) ≡ take len (drop rest xs) =
    ap (λ (n : ℕ). take n (drop rest ys)) {x = rest + len - rest} {y = len} (omega arith) ∙ ap (take len) i.3 in (
      omega (arith, i.0, f.nonempty),
      omega (arith, f.within, s.len),
      IsPermutation-trans _ _ _ i.2 s.permutation,
      swapped_rest ys _ c.loop-rest.kept place order inside s.by_index b.kept.0 b.kept.1 (rest + len) b.high
          ∙ (sym (drop-drop len rest ys) ∙ ap (drop len) i.3 ∙ drop-drop len rest xs),
      b.callable,
      keeps g.J.Judge Front _ (Some _) _ call i.5,
      (
        _,
        yields_more (CallAt (LinearQuestions g.J.Judge) Front) _ i.6.0 _ _ _ i.6.1 call,
        rw (swapped_kept ys _ c.loop-rest.kept place order inside s.by_index b.kept.0 b.kept.1 (omega (arith, order, inside, s.len)))
            (each_more (CalledAtTwo g.B.FnMut) _ i.6.0 _ _ _ _ _ i.6.2 (rw group at b.kept.2)),
      ),
    )

pub returns-clause-kept : goal.returns-clause-kept
returns-clause-kept g c =
    let i = c.loop-rest.invariant in
    let none = drop_all c.loop-rest.rest c.args.slice.now (omega (arith, c.loop-rest-test.false, c.loop-rest.auto.slice)) in
    record { groups = i.6.0; walked = (_, (_, i.6.1, (none, refl))); last = _; compared = i.6.2 }
