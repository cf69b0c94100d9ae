use Rattle.sgb_split.specs.Split.{AreApart, AreNeighbours}
use Rattle.sgb_split.proofs.Questions.Closures.{predicate_callable}
use Rattle.sgb_split.proofs.laws.always_callable.Goals as goal

pub returns-clause-along : goal.returns-clause-along
returns-clause-along g c xs = predicate_callable g.P.FnMut (AreNeighbours xs)

pub returns-clause-apart : goal.returns-clause-apart
returns-clause-apart g c xs = predicate_callable g.P.FnMut (AreApart xs)
