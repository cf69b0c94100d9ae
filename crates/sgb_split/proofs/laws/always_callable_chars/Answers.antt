use Rattle.sgb_split.proofs.Questions.Closures.{char_predicate_callable}
use Rattle.sgb_split.proofs.laws.always_callable_chars.Goals as goal

pub returns : goal.returns
returns g c = char_predicate_callable g.P.FnMut
