use Rattle.std.proofs.Common.{rules}
use Rattle.sgb_split.proofs.Questions.Closures.{computes_next}
use Rattle.slice_group_stream.proofs.asking.ask.Goals as goal

pub returns-clause-called : goal.returns-clause-called
returns-clause-called g c = search rules

pub returns-clause-is : goal.returns-clause-is
returns-clause-is g c p h =
    (computes_next g.P.FnMut p c.args.predicate.now c.args.before.now c.args.first.now c.predicate.result c.predicate.new.self h
    (returns-clause-called g c)).0

pub returns-clause-computes : goal.returns-clause-computes
returns-clause-computes g c p h =
    (computes_next g.P.FnMut p c.args.predicate.now c.args.before.now c.args.first.now c.predicate.result c.predicate.new.self h
    (returns-clause-called g c)).1
