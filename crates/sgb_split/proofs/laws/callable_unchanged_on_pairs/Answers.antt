use Rattle.sgb_split.specs.Split.{AreNeighbours, AreApart}
use Rattle.sgb_split.proofs.Questions.OnElements.{pairs_callable_unchanged}
use Rattle.sgb_split.proofs.laws.callable_unchanged_on_pairs.Goals as goal

pub returns-clause-along : goal.returns-clause-along
returns-clause-along g c xs predicate stays = pairs_callable_unchanged g.P.FnMut stays (AreNeighbours xs) predicate

pub returns-clause-apart : goal.returns-clause-apart
returns-clause-apart g c xs predicate stays = pairs_callable_unchanged g.P.FnMut stays (AreApart xs) predicate
