use Rattle.std.proofs.Common.{rules}
use Rattle.example_conditions.proofs.count_equal_characters.Goals as goal

pub new-requires : goal.new-requires
new-requires c = search rules
