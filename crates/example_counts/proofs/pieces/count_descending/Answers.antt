use Rattle.std.proofs.Common.{nat_eq}
use Rattle.std.proofs.lemmas.Iterator.Consumers.{count_from_yields_List}
use Rattle.slice_group_by.specs.End.TheVariants.{Front}
use Rattle.example_counts.proofs.pieces.count_descending.Goals as goal

pub returns : goal.returns
returns c =
    let grouped = c.ascending_is_grouped.ensures.descending c.args.xs.now c.requires in
    let seen = c.sees_pieces.ensures.pieces nat_eq Front c.new-groups.result (c.new-groups.ensures.settled grouped) in
    rw c.new-groups.ensures.remainder at (count_from_yields_List _ _ c.count.ensures.ran seen)
