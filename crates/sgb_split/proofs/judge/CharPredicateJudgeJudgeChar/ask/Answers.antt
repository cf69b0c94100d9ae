use Rattle.sgb_split.proofs.judge.CharPredicateJudgeJudgeChar.ask.Goals as goal

pub predicate-requires : goal.predicate-requires
predicate-requires g c = c.requires

pub returns : goal.returns
returns g c = c.predicate.ensures
