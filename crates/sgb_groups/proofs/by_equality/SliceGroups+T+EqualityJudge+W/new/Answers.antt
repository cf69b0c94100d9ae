use Rattle.sgb_split.proofs.Questions.Equality.{equality_settled}
use Rattle.sgb_groups.proofs.by_equality.SliceGroups+T+EqualityJudge+W.new.Goals as goal

pub returns-clause-computes : goal.returns-clause-computes
returns-clause-computes g c = equality_settled g.T.PartialEq.eq _ _

pub returns-clause-settled : goal.returns-clause-settled
returns-clause-settled g c fits =
    g.W.Way.settled_if_fits _ _ _ _ _ (returns-clause-computes g c) (rw c.with_judge.ensures.remainder fits)
