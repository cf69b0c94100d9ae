use Rattle.slice_group_by.proofs.Queues.Chains.{chain_keeps}
use Rattle.slice_group_by.proofs.laws.calls.calls_may_go_on.Goals as goal

pub returns-clause-call : goal.returns-clause-call
returns-clause-call g c e q t group = g.met.Q.GroupQueue.keeps e q group t

pub returns-clause-calls : goal.returns-clause-calls
returns-clause-calls g c q t ends out = chain_keeps _ _ g.met.Q.GroupQueue.keeps q ends out t
