use Rattle.sgb_split.proofs.Questions.Closures.{char_key_taken}
use Rattle.slice_group_by.proofs.adapters.keyed.texts.LinearStrGroupsMutCharKeyJudgeKeyed.first_key.Goals as goal

pub first_key_of-requires-clause-callable : goal.first_key_of-requires-clause-callable
first_key_of-requires-clause-callable g c first at = char_key_taken g.F.FnMut g.K.PartialEq.eq c.args.self.now.judge.func first c.requires.callable
