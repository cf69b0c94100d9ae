use Rattle.std.proofs.Common.{◌∙◌, ap, ◌++◌, ◌∷◌, [], add-one, append_assoc, sym, take}
use Rattle.std.specs.Vec.Iter.{into_iter_items}
use Rattle.grouped_report.proofs.Moves.{no_more, none_left, one_more}
use Rattle.grouped_report.proofs.sums.move_some.Goals as goal
use Rattle.grouped_report.proofs.sums.move_some.Goals.{in-Some+in_ok-push, in_default}

pub loop-preserved : goal.loop-preserved
loop-preserved c =
    let xs = into_iter_items c.args.from.now in
    let at = c.loop.invariant in
    elim c.match-next.branch [
      | in-Some+in_ok-push w ↦
          let more = one_more c.loop.counter xs w.in-Some.sum _ (sym at.rest ∙ w.in-Some.ensures.items) in
          record {
            moved = rw (w.sums-is, add-one, more.0)
                (w.in_ok-push.ensures.items ∙ ap (λ zs. zs ++ w.in-Some.sum ∷ []) at.moved
                ∙ append_assoc c.args.sums.now.items (take c.loop.counter xs) (w.in-Some.sum ∷ []));
            rest = rw add-one (sym more.1);
          }
      | in_default w ↦
          let none = none_left c.next.new.self w.in_default.ensures.cases.1 in
          let more = no_more c.loop.counter xs (sym at.rest ∙ w.in_default.ensures.items ∙ none) in
          record { moved = rw (w.sums-is, add-one, more.0) at.moved; rest = rw add-one (none ∙ sym more.1) }
    ]
