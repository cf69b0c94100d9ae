use Rattle.sgb_split.specs.Split.{AreNeighbours, AreApart}
use Rattle.sgb_split.proofs.Questions.OnElements.{callable_unchanged, key_callable_on, neighbours_contained, apart_contained}
use Rattle.sgb_split.proofs.laws.callable_unchanged.Goals as goal

pub returns-clause-along : goal.returns-clause-along
returns-clause-along g c xs f stays takes =
    key_callable_on g.F.FnMut g.K.PartialEq.eq xs (AreNeighbours xs) (neighbours_contained xs) f
    (callable_unchanged g.F.FnMut stays xs f takes)

pub returns-clause-apart : goal.returns-clause-apart
returns-clause-apart g c xs f stays takes =
    key_callable_on g.F.FnMut g.K.PartialEq.eq xs (AreApart xs) (apart_contained xs) f
    (callable_unchanged g.F.FnMut stays xs f takes)
