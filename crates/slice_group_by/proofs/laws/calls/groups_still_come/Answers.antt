use Rattle.slice_group_by.proofs.Queues.GroupsToCome.{at_most_length, at_least_one, at_most_calls}
use Rattle.slice_group_by.proofs.laws.calls.groups_still_come.Goals as goal

pub returns-clause-most : goal.returns-clause-most
returns-clause-most g c = at_most_length _ _ _ g.met.Q.GroupQueue.part

pub returns-clause-least : goal.returns-clause-least
returns-clause-least g c = at_least_one _ _ _ g.met.Q.GroupQueue.part

pub returns-clause-fewer : goal.returns-clause-fewer
returns-clause-fewer g c = at_most_calls _ _ _ g.met.Q.GroupQueue.part
