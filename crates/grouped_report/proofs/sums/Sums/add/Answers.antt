use Rattle.std.proofs.Common.{◌++◌, ◌∷◌, [], rules, ap, ◌∙◌, set}
use Rattle.std.proofs.lemmas.Fn.{always_returns_same}
use Rattle.grouped_report.specs.Groups.{Summary, group_cmp, with_rows}
use Rattle.grouped_report.proofs.Orders.{cmp_same}
use Rattle.grouped_report.proofs.Witness.{row_added, row_waits}
use Rattle.grouped_report.proofs.sums.Sums.add.Goals as goal

pub returns-in-Ok : goal.returns-in-Ok
returns-in-Ok c rows summed =
    let old = c.args.self.now.sums.items in
    let row = c.args.row.now in
    let sum = c.index_mut.result.now in
    let found = c.in-Ok.ensures.position (λ s. group_cmp s.group row.group) (always_returns_same _ _ _ (λ a r f' k. search rules)) sum in
    let bound = rw c.deref.ensures.value at c.in-Ok.ensures.bound in
    row_added rows old _ c.args.self.now.waiting.items row c.in-Ok.place sum bound (cmp_same _ _ (rw c.deref.ensures.value at found))
    (ap (set old c.in-Ok.place) (c.in_ok-add.ensures ∙ ap (λ (s : Summary). with_rows s (row ∷ [])) c.index_mut.ensures.value)) summed

pub returns-in_ok-merge : goal.returns-in_ok-merge
returns-in_ok-merge c rows summed =
    let waits = row_waits rows _ _ c.push.new.self.items c.args.row.now (rw c.in_ok-copy.ensures at c.in_ok-push.ensures.items) summed in
    rw c.in_ok-merge.ensures.none (c.in_ok-merge.ensures.summed (rows ++ c.args.row.now ∷ []) waits)

pub returns-else-len-max : goal.returns-else-len-max
returns-else-len-max c rows summed =
    row_waits rows _ _ c.push.new.self.items c.args.row.now (rw c.in_ok-copy.ensures at c.in_ok-push.ensures.items) summed
