use Rattle.sgb_split.proofs.Questions.OnElements.{neighbours_contained, apart_contained}
use Rattle.sgb_split.proofs.laws.pairs_are_elements.Goals as goal

pub returns-clause-along : goal.returns-clause-along
returns-clause-along g c = neighbours_contained

pub returns-clause-apart : goal.returns-clause-apart
returns-clause-apart g c = apart_contained
