use Rattle.slice_group_by.proofs.Queues.Offsets.{each_stands, front_offsets, yields_offsets}
use Rattle.slice_group_by.proofs.adapters.offsets.groups_stand.Goals as goal

pub returns-clause-each : goal.returns-clause-each
returns-clause-each g c = each_stands _ _ _ g.Q.GroupQueue.gives g.met.Q.Offsets.takes

pub returns-clause-front : goal.returns-clause-front
returns-clause-front g c = front_offsets _ _ _ g.Q.GroupQueue.gives g.met.Q.Offsets.takes

pub returns-clause-yields : goal.returns-clause-yields
returns-clause-yields g c q parts h = record { runs = yields_offsets _ _ _ g.Q.GroupQueue.gives g.met.Q.Offsets.takes q parts h.runs }
