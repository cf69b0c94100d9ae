use Rattle.std.proofs.Common.{arith}
use Rattle.grouped_report.proofs.Decimals.{digits_fit}
use Rattle.grouped_report.proofs.amount.parse_billionths.Goals as goal

pub returns-clause-small : goal.returns-clause-small
returns-clause-small c =
    let fit = digits_fit c.in_ok-number.number _ c.in_ok-number.ensures.small (omega arith) in
    rw c.pow.ensures fit
