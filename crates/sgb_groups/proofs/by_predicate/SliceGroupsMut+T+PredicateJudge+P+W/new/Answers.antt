use Rattle.sgb_split.proofs.Questions.Closures.{predicate_settled}
use Rattle.sgb_groups.proofs.by_predicate.SliceGroupsMut+T+PredicateJudge+P+W.new.Goals as goal

pub returns-clause-computes : goal.returns-clause-computes
returns-clause-computes g c p h = rw c.with_judge.ensures.judge (predicate_settled g.P.FnMut p _ _ h)

pub returns-clause-settled : goal.returns-clause-settled
returns-clause-settled g c p h fits =
    g.W.Way.settled_if_fits _ _ _ _ _ (returns-clause-computes g c p h) (rw c.with_judge.ensures.remainder fits)
