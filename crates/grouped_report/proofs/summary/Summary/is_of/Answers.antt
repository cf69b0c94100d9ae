use Rattle.grouped_report.proofs.Orders.{same_texts}
use Rattle.grouped_report.proofs.summary.Summary.is_of.Goals as goal

pub returns : goal.returns
returns c =
    rw (← c.self.view_is, ← c.group.ensures) (same_texts c.self.inside.group.items c.group.result.now _
    (rw c.as_slice.ensures.value at c.eq.ensures))
