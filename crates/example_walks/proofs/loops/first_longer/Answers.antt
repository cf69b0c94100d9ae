use Rattle.std.proofs.Common.{rules, tests, length, nat_lt}
use Rattle.std.proofs.lemmas.Iterator.Search.{find_from_yields_List}
use Rattle.slice_group_by.specs.End.TheVariants.{Front}
use Rattle.example_walks.proofs.loops.first_longer.Goals as goal

pub returns : goal.returns
returns g c =
    let seen = c.sees_pieces.ensures.pieces g.T.PartialEq.eq Front c.new-groups.result (c.new-groups.ensures.settled tt) in
    rw c.new-groups.ensures.remainder at
    (find_from_yields_List (λ x. nat_lt c.args.len (length x)) _ _ c.find.result c.find.ensures.ran seen (λ x b q k. search (rules, tests)))
