use Rattle.sgb_split.specs.Split.{AreNeighbours, AreApart}
use Rattle.sgb_split.proofs.Questions.OnElements.{neighbours_contained, apart_contained, key_computes_on}
use Rattle.sgb_split.proofs.laws.computes_on_elements.Goals as goal

pub returns-clause-along : goal.returns-clause-along
returns-clause-along g c xs = key_computes_on g.F.FnMut g.K.PartialEq.eq xs (AreNeighbours xs) (neighbours_contained xs)

pub returns-clause-apart : goal.returns-clause-apart
returns-clause-apart g c xs = key_computes_on g.F.FnMut g.K.PartialEq.eq xs (AreApart xs) (apart_contained xs)
