use Rattle.std.proofs.Common.{rules}
use Rattle.slice_group_stream.proofs.States.{key_after}
use Rattle.slice_group_stream.proofs.asking.key_of.Goals as goal

pub returns-clause-called : goal.returns-clause-called
returns-clause-called g c = search rules

pub returns-clause-is : goal.returns-clause-is
returns-clause-is g c k h =
    (key_after g.F.FnMut k c.args.key.now c.args.element.now c.key.result c.key.new.self h (returns-clause-called g c)).0

pub returns-clause-computes : goal.returns-clause-computes
returns-clause-computes g c k h =
    (key_after g.F.FnMut k c.args.key.now c.args.element.now c.key.result c.key.new.self h (returns-clause-called g c)).1
