use Rattle.std.proofs.lemmas.Result.{on_ok_weaker}
use Rattle.std.specs.Vec.Iter.{into_iter_items}
use Rattle.grouped_report.proofs.Moves.{both_moved}
use Rattle.grouped_report.proofs.sums.push_together.Goals as goal

pub returns : goal.returns
returns c =
    let old = c.args in
    let new = c.move_both.new in
    on_ok_weaker _ (both_moved old.counts old.sums.now.items new.sums.items (into_iter_items old.left.now) (into_iter_items new.left)
    (into_iter_items old.right.now) (into_iter_items new.right) c.if-group-eq0.false c.if-others-eq0.false) c.move_both.ensures
