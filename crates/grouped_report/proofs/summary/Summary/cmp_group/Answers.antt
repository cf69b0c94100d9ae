use Rattle.grouped_report.proofs.Orders.{texts_cmp}
use Rattle.grouped_report.proofs.summary.Summary.cmp_group.Goals as goal

pub returns : goal.returns
returns c = rw (← c.self.view_is, ← c.other.view_is) (texts_cmp c.self.inside.group.items c.other.inside.group.items _ c.cmp.ensures)
