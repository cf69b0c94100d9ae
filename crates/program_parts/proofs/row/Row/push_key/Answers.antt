use Rattle.std.proofs.Common.{ap}
use Rattle.program_parts.specs.Rows.{Row}
use Rattle.program_parts.proofs.row.Row.push_key.Goals as goal

pub returns : goal.returns
returns c = let part = ap (λ (r : Row). r.key) c.self.view_is in rw (c.deref.ensures, c.deref-2.ensures, part) at c.push_from.ensures
