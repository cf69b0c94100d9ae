use Rattle.slice_group_stream.proofs.asking.groups_by_key.Goals as goal

pub new-requires : goal.new-requires
new-requires g c = c.always_callable_key.ensures.along _ _ c.requires
