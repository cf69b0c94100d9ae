use Rattle.std.proofs.Common.{◌+◌, ap, ◌∙◌}
use Rattle.sgb_split.proofs.Questions.Equality.{equality_counts}
use Rattle.sgb_split.proofs.laws.equality_judges.Goals as goal

pub returns : goal.returns
returns g c j k n a = equality_counts g.T.PartialEq.eq j a.0 k a.1 ∙ ap (λ m. j.asked + m) a.2
