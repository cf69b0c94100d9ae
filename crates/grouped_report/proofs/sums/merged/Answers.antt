use Rattle.std.proofs.Common.{◌≡◌, ◌+◌, ◌∙◌, ◌∷◌, [], sym, add-one, drop-cons, drop_of_length-le, drop, get_or, subst, map}
use Rattle.std.specs.Vec.Iter.{into_iter_items}
use Rattle.grouped_report.specs.Sums.{counts_of}
use Rattle.grouped_report.proofs.Moves.{AreMoved, all_moved, part_moved}
use Rattle.grouped_report.proofs.sums.merged.Goals as goal

pub loop-count-preserved : goal.loop-count-preserved
loop-count-preserved c ps ones l r counted =
    let counts = c.deref-count-items.result.now in
    let k = c.loop-count.count-index in
    let left = into_iter_items c.loop-count.left in
    let right = into_iter_items c.loop-count.right in
    let cut : drop k counts ≡ get_or counts k (0, 0) ∷ drop (k + 1) counts = rw add-one (drop-cons counts k (0, 0) c.loop-count-test.true) in
    let at = subst (AreMoved ps c.loop-count.sums.items left right) cut (c.loop-count.invariant ps ones l r counted) in
    part_moved ps _ _ left _ right _ (get_or counts k (0, 0)) (drop (k + 1) counts) at c.in_ok-push_together.ensures

pub returns : goal.returns
returns c ps merge ones =
    let counts = c.deref-count-items.result.now in
    let counted : counts ≡ map counts_of ps = c.deref-count-items.ensures.value
    ∙ c.in_ok-counts.ensures ps (rw (c.deref.ensures.value, c.deref-2.ensures.value) merge) in
    let none : drop c.loop-count.count-index counts ≡ [] = drop_of_length-le counts c.loop-count-test.false in
    all_moved ps _ _ _ (rw none at c.loop-count.invariant ps ones (c.into_iter-left.ensures.rest ∙ sym merge.merges.covers_left)
    (c.into_iter-right.ensures.rest ∙ sym merge.merges.covers_right) counted)
