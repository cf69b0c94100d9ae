use Rattle.sgb_split.proofs.Questions.Closures.{char_predicate_settled}
use Rattle.sgb_linear_str_group.proofs.by_predicate.LinearStrGroupsMut+CharPredicateJudge+P.new.Goals as goal

pub returns-clause-settled : goal.returns-clause-settled
returns-clause-settled g c p h = rw c.with_judge.ensures.judge (char_predicate_settled g.P.FnMut p _ _ h)
