use Rattle.sgb_split.proofs.judge.EqualityJudgeJudge.ask.Goals as goal

pub returns : goal.returns
returns g c = (c.eq.ensures, c.one_more.ensures)
