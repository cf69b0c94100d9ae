use Rattle.std.proofs.lemmas.Iterator.Consumers.{count_from_yields_List}
use Rattle.std.proofs.Common.{nat_eq}
use Rattle.slice_group_by.specs.End.TheVariants.{Front}
use Rattle.example_counts.proofs.parts.count_long_groups.Goals as goal

pub returns-clause-count : goal.returns-clause-count
returns-clause-count c =
    rw c.new-groups.ensures.remainder at (count_from_yields_List _ _ c.count.ensures.ran
    (c.sees_pieces.ensures.pieces nat_eq Front c.new-groups.result (c.new-groups.ensures.settled c.requires)))
