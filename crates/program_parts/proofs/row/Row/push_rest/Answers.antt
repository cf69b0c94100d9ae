use Rattle.std.proofs.Common.{ap}
use Rattle.program_parts.specs.Rows.{Row}
use Rattle.program_parts.proofs.row.Row.push_rest.Goals as goal

pub returns : goal.returns
returns c =
    let part = ap (λ (r : Row). r.rest) c.self.view_is in
    rw (c.deref.ensures, c.deref-2.ensures, c.deref-3.ensures, part) at c.push_from.ensures
