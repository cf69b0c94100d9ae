use Rattle.sgb_groups.proofs.groups.SliceGroups.last.Goals as goal

pub returns : goal.returns
returns g c = (_, c.next_back.ensures.steps)
