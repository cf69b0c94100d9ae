use Rattle.std.proofs.Common.{rules}
use Rattle.example_conditions.proofs.three_outer_groups.Goals as goal

pub walk-requires-clause-len : goal.walk-requires-clause-len
walk-requires-clause-len c = search rules

pub returns : goal.returns
returns c = search rules
