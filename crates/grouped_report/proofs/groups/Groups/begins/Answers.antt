use Rattle.std.proofs.Common.{sym, ap, ◌∙◌}
use Rattle.std.specs.Option.{option_copied}
use Rattle.grouped_report.specs.Groups.{same_group}
use Rattle.grouped_report.proofs.Closing.{begins_none, begins_some}
use Rattle.grouped_report.proofs.groups.Groups.begins.Goals as goal

pub returns-in-Some-Some : goal.returns-in-Some-Some
returns-in-Some-Some c came so_far =
    rw c.is_of.ensures (begins_some came _ _ _ _ (c.one_split.ensures.exists same_group came) c.in-Some-Some.is-0 so_far
    (sym c.first.ensures.value ∙ ap option_copied c.in-Some-Some.is-1))

pub returns-in_default-2 : goal.returns-in_default-2
returns-in_default-2 c came so_far =
    begins_none came _ _ (c.one_split.ensures.exists same_group came) c.in_default.is-0 so_far
