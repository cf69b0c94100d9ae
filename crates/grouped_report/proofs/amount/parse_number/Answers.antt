use Rattle.std.proofs.Common.{◌≢◌, get_or, arith, ap, ◌∙◌}
use Rattle.std.proofs.lemmas.Grind.{common_steps}
use Rattle.std.proofs.lemmas.Str.Parse.{without_leading_plus_none}
use Rattle.program_parts.specs.Decimals.{digits_in}
use Rattle.grouped_report.proofs.Decimals.{number_small}
use Rattle.grouped_report.proofs.amount.parse_number.Goals as goal
use Rattle.grouped_report.proofs.amount.parse_number.Goals.{in_default-via-then-text-lt1, in_default-via-else-text-lt1+in_default-1}

pub returns-in_default-clause-number : goal.returns-in_default-clause-number
returns-in_default-clause-number c =
    let plain : get_or c.args.text.now 0 0 ≢ 43 =
    elim c.in_default.branch [
      | in_default-via-then-text-lt1 w ↦ grind (arith, common_steps)
      | in_default-via-else-text-lt1+in_default-1 w ↦ grind (arith, common_steps)
    ] in
    c.number_64.ensures ∙ ap (digits_in 64) (without_leading_plus_none c.args.text.now plain)

pub returns-in_default-clause-small : goal.returns-in_default-clause-small
returns-in_default-clause-small c = rw (returns-in_default-clause-number c) (number_small c.args.text.now)
