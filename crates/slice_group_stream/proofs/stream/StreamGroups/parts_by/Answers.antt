use Rattle.slice_group_stream.proofs.stream.StreamGroups.parts_by.Goals as goal

pub returns-clause-computes : goal.returns-clause-computes
returns-clause-computes g c p h = c.groups_by.ensures.computes p (c.begins_by-begins.ensures.computes p h)
