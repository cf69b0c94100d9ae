use Rattle.std.proofs.lemmas.Iterator.Consumers.{count_from_yields_List}
use Rattle.slice_group_by.specs.End.TheVariants.{Front}
use Rattle.example_walks.proofs.loops.count_groups.Goals as goal

pub returns : goal.returns
returns g c =
    let seen = c.sees_pieces.ensures.pieces g.T.PartialEq.eq Front c.new-groups.result (c.new-groups.ensures.settled tt) in
    rw c.new-groups.ensures.remainder at (count_from_yields_List _ _ c.count.ensures.ran seen)
