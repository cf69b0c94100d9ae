use Rattle.sgb_split.proofs.Questions.Closures.{char_key_callable}
use Rattle.sgb_split.proofs.laws.always_callable_char_key.Goals as goal

pub returns : goal.returns
returns g c = char_key_callable g.F.FnMut g.K.PartialEq.eq
