use Rattle.std.proofs.Common.{refl}
use Rattle.std.proofs.lemmas.Iterator.Consumers.{count_from_yields_List}
use Rattle.slice_group_by.specs.End.TheVariants.{Front}
use Rattle.example_walks.proofs.families.count_sorted.Goals as goal

pub returns-clause-counts : goal.returns-clause-counts
returns-clause-counts g c =
    let settled = c.new-groups.ensures.settled (c.if-not-is_sorted_for_groups.ensures.grouped refl) in
    rw c.new-groups.ensures.remainder at
    (count_from_yields_List _ _ c.count.ensures.ran
    (c.sees_pieces.ensures.pieces g.T.PartialEq.eq Front c.new-groups.result settled))
