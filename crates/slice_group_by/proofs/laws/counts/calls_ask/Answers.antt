use Rattle.slice_group_by.proofs.Questions.Counting.{yields_ask}
use Rattle.slice_group_by.proofs.laws.counts.calls_ask.Goals as goal

pub returns-clause-call : goal.returns-clause-call
returns-clause-call g c e q t group = g.met.Q.GroupQueue.asks_due e q group t

pub returns-clause-yields : goal.returns-clause-yields
returns-clause-yields g c e =
    yields_ask (g.Q.GroupQueue.gives e) _ _ _ g.met.Q.GroupQueue.asked_none g.met.Q.GroupQueue.asked_more (g.met.Q.GroupQueue.asks_due e)
