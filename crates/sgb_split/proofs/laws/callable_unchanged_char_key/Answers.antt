use Rattle.sgb_split.proofs.Questions.OnElements.{char_key_callable_unchanged}
use Rattle.sgb_split.proofs.laws.callable_unchanged_char_key.Goals as goal

pub returns : goal.returns
returns g c cs f stays = char_key_callable_unchanged g.F.FnMut g.K.PartialEq.eq stays cs f
