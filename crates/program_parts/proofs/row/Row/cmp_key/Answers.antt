use Rattle.std.proofs.Common.{subst, ◌∙◌}
use Rattle.program_parts.proofs.Fronts.{by_fronts}
use Rattle.program_parts.specs.Rows.{IsFront, Row}
use Rattle.program_parts.proofs.row.Row.cmp_key.Goals as goal

pub returns-in_default : goal.returns-in_default
returns-in_default c =
    let front = subst (λ (r : Row). IsFront c.self.inside.front r.key) c.self.view_is c.self.invariant.2 in
    let other = subst (λ (r : Row). IsFront c.other.inside.front r.key) c.other.view_is c.other.invariant.2 in
    c.cmp.ensures ∙ by_fronts _ _ _ _ front other (λ e. c.in_default.not-Equal (c.cmp.ensures ∙ e))
