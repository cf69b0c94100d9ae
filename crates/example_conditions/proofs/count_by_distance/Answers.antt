use Rattle.std.proofs.Common.{rules}
use Rattle.example_conditions.proofs.count_by_distance.Goals as goal

pub new-groups-requires : goal.new-groups-requires
new-groups-requires g c = search rules
