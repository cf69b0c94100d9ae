use Rattle.slice_group_stream.proofs.asking.groups_by.Goals as goal

pub new-requires : goal.new-requires
new-requires g c = c.always_callable.ensures.along _ _ c.requires
