use Rattle.std.proofs.Common.{nat_eq}
use Rattle.sgb_split.proofs.Questions.Equality.{equality_settled}
use Rattle.sgb_linear_str_group.proofs.by_equality.LinearStrGroups+EqualityJudge.new.Goals as goal

pub returns-clause-settled : goal.returns-clause-settled
returns-clause-settled c = equality_settled nat_eq _ _
