use Rattle.sgb_split.specs.Split.{AreNeighbours, AreApart}
use Rattle.sgb_split.proofs.Questions.OnElements.{callable_on_pairs}
use Rattle.sgb_split.proofs.laws.callable_on_pairs.Goals as goal

pub returns-clause-along : goal.returns-clause-along
returns-clause-along g c xs = callable_on_pairs g.P.FnMut (AreNeighbours xs)

pub returns-clause-apart : goal.returns-clause-apart
returns-clause-apart g c xs = callable_on_pairs g.P.FnMut (AreApart xs)
