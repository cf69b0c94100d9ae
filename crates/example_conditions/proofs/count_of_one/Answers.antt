use Rattle.std.proofs.Common.{rules}
use Rattle.example_conditions.proofs.count_of_one.Goals as goal

pub binary_group_by-groups-requires : goal.binary_group_by-groups-requires
binary_group_by-groups-requires c = search rules
