use Rattle.sgb_split.proofs.Questions.Closures.{char_key_settled}
use Rattle.sgb_linear_str_group.proofs.by_key.LinearStrGroupsMut+CharKeyJudge+F+K.new.Goals as goal

pub returns-clause-settled : goal.returns-clause-settled
returns-clause-settled g c key h = rw (c.with_judge.ensures.judge, c.new.ensures) (char_key_settled g.F.FnMut g.K.PartialEq.eq key _ _ h)

pub returns-clause-callable : goal.returns-clause-callable
returns-clause-callable g c = rw (c.with_judge.ensures.text, c.with_judge.ensures.judge, c.new.ensures) c.requires.callable
