use Rattle.sgb_split.proofs.Questions.Closures.{key_settled}
use Rattle.sgb_groups.proofs.by_key.ByKey+T+F+K+W.new.Goals as goal

pub returns-clause-callable : goal.returns-clause-callable
returns-clause-callable g c = rw (c.with_judge.ensures.remainder, c.with_judge.ensures.judge, c.new.ensures) c.requires

pub returns-clause-computes : goal.returns-clause-computes
returns-clause-computes g c key h = rw (c.with_judge.ensures.judge, c.new.ensures) (key_settled g.F.FnMut g.K.PartialEq.eq key _ _ h)

pub returns-clause-settled : goal.returns-clause-settled
returns-clause-settled g c key h fits =
    g.W.Way.settled_if_fits _ _ _ _ _ (returns-clause-computes g c key h) (rw c.with_judge.ensures.remainder fits)
