use Rattle.grouped_report.proofs.Orders.{same_texts}
use Rattle.grouped_report.proofs.row.Row.is_with.Goals as goal

pub returns : goal.returns
returns c = rw (← c.self.view_is, ← c.other.view_is) (same_texts c.self.inside.group.items c.other.inside.group.items _ c.eq.ensures)
