use Rattle.std.proofs.Common.{rules}
use Rattle.sgb_split.proofs.Questions.Closures.{key_called, key_callable, key_next, key_settled, callable_after_call}
use Rattle.sgb_groups.proofs.by_key.ByKey+T+F+K+W.key_of.Goals as goal

pub returns-clause-called : goal.returns-clause-called
returns-clause-called g c = search rules

pub returns-clause-callable : goal.returns-clause-callable
returns-clause-callable g c always =
    key_callable g.F.FnMut g.K.PartialEq.eq _ _ (key_called g.F.FnMut g.K.PartialEq.eq _ _ _ _ (returns-clause-called g c) always)

pub returns-clause-callable_on : goal.returns-clause-callable_on
returns-clause-callable_on g c xs on here = callable_after_call g.F.FnMut xs _ _ _ _ (returns-clause-called g c) on here

pub returns-clause-key : goal.returns-clause-key
returns-clause-key g c key h = (key_next g.F.FnMut g.K.PartialEq.eq key _ _ _ _ h (returns-clause-called g c)).0

pub returns-clause-computes : goal.returns-clause-computes
returns-clause-computes g c key h = (key_next g.F.FnMut g.K.PartialEq.eq key _ _ _ _ h (returns-clause-called g c)).1

pub returns-clause-settled : goal.returns-clause-settled
returns-clause-settled g c key h settled =
    g.W.Way.settled_if_fits _ _ _ _ _ (key_settled g.F.FnMut g.K.PartialEq.eq key _ _ (returns-clause-computes g c key h))
    (g.W.Way.fits_if_settled _ _ _ _ _ settled)
