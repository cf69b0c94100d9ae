use Rattle.grouped_report.proofs.Orders.{texts_cmp}
use Rattle.grouped_report.proofs.summary.Summary.cmp_row.Goals as goal

pub returns : goal.returns
returns c =
    rw (← c.self.view_is, ← c.group.ensures) (texts_cmp c.self.inside.group.items c.group.result.now _
    (rw c.as_slice.ensures.value at c.cmp.ensures))
