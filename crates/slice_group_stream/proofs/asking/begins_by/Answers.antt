use Rattle.std.proofs.Common.{ap, not}
use Rattle.slice_group_stream.proofs.States.{asks_two}
use Rattle.slice_group_stream.proofs.asking.begins_by.Goals as goal

pub returns-in-Some-clause-asks : goal.returns-in-Some-clause-asks
returns-in-Some-clause-asks g c =
    let called = c.ask.ensures.called in
    rw c.in-Some.is
    (asks_two g.P.FnMut c.args.predicate.now c.in-Some.two c.ask.result c.ask.new.predicate c.requires
    (record { first = called.first; second = called.second; shows = called.shows; called = called.called }))

pub returns-in-Some-clause-begins : goal.returns-in-Some-clause-begins
returns-in-Some-clause-begins g c p h = rw c.in-Some.is (ap not (c.ask.ensures.is p h))
