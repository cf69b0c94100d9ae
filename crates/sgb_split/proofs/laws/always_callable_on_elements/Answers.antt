use Rattle.sgb_split.proofs.Questions.Closures.{callable_on_elements}
use Rattle.sgb_split.proofs.laws.always_callable_on_elements.Goals as goal

pub returns : goal.returns
returns g c = callable_on_elements g.F.FnMut
