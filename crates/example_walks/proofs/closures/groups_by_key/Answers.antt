use Rattle.example_walks.proofs.closures.groups_by_key.Goals as goal

pub new-groups-requires : goal.new-groups-requires
new-groups-requires g c = c.always_callable_key.ensures.along _ _ c.requires.callable
