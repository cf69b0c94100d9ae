use Rattle.sgb_split.proofs.Questions.Closures.{computes_on_elements}
use Rattle.sgb_split.proofs.laws.always_computes.Goals as goal

pub returns : goal.returns
returns g c = computes_on_elements g.F.FnMut
