use Rattle.std.proofs.lemmas.Iterator.Consumers.{count_from_yields_List}
use Rattle.slice_group_by.specs.End.TheVariants.{Front}
use Rattle.example_walks.proofs.families.sort_and_count.Goals as goal

pub returns-clause-groups : goal.returns-clause-groups
returns-clause-groups g c =
    let ascends = c.sorts_ascend.ensures.by_itself _ c.sort_unstable.ensures.sorted in
    let settled = c.new-groups.ensures.settled (c.ascending_is_grouped.ensures.by_itself _ ascends) in
    rw c.new-groups.ensures.remainder at
    (count_from_yields_List _ _ c.count.ensures.ran (c.sees_pieces.ensures.pieces g.T.PartialEq.eq Front c.new-groups.result settled))
