use Rattle.grouped_report.proofs.ReadBack.{amount_read, sum_read}
use Rattle.grouped_report.proofs.amount.amounts_read_back.Goals as goal

pub returns-clause-amount : goal.returns-clause-amount
returns-clause-amount c = amount_read

pub returns-clause-sum : goal.returns-clause-sum
returns-clause-sum c = sum_read
