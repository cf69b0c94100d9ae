use Rattle.std.proofs.Common.{rules}
use Rattle.sgb_split.proofs.Questions.Closures.{char_key_called, char_key_callable, char_key_next, char_key_settled}
use Rattle.sgb_linear_str_group.proofs.by_key.LinearStrGroups+CharKeyJudge+F+K.key_of.Goals as goal

pub returns-clause-called : goal.returns-clause-called
returns-clause-called g c = search rules

pub returns-clause-callable : goal.returns-clause-callable
returns-clause-callable g c always =
    char_key_callable g.F.FnMut g.K.PartialEq.eq _ _ (char_key_called g.F.FnMut g.K.PartialEq.eq _ _ _ _ (returns-clause-called g c) always)

pub returns-clause-computes : goal.returns-clause-computes
returns-clause-computes g c key h = (char_key_next g.F.FnMut g.K.PartialEq.eq key _ _ _ _ h (returns-clause-called g c)).1

pub returns-clause-settled : goal.returns-clause-settled
returns-clause-settled g c key h = char_key_settled g.F.FnMut g.K.PartialEq.eq key _ _ (returns-clause-computes g c key h)

pub returns-clause-key : goal.returns-clause-key
returns-clause-key g c key h = (char_key_next g.F.FnMut g.K.PartialEq.eq key _ _ _ _ h (returns-clause-called g c)).0
