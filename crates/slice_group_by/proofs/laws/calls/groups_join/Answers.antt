use Rattle.slice_group_by.proofs.Queues.Yields.{yields_parts, drains_parts}
use Rattle.slice_group_by.proofs.laws.calls.groups_join.Goals as goal

pub returns-clause-part : goal.returns-clause-part
returns-clause-part g c = yields_parts _ _ _ g.met.Q.GroupQueue.part

pub returns-clause-whole : goal.returns-clause-whole
returns-clause-whole g c = drains_parts _ _ _ g.met.Q.GroupQueue.part
