use Rattle.sgb_split.specs.Split.{AreApart, AreNeighbours}
use Rattle.sgb_split.proofs.Questions.Closures.{key_callable}
use Rattle.sgb_split.proofs.laws.always_callable_key.Goals as goal

pub returns-clause-along : goal.returns-clause-along
returns-clause-along g c xs = key_callable g.F.FnMut g.K.PartialEq.eq (AreNeighbours xs)

pub returns-clause-apart : goal.returns-clause-apart
returns-clause-apart g c xs = key_callable g.F.FnMut g.K.PartialEq.eq (AreApart xs)
