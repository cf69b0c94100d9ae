use Rattle.std.proofs.Common.{rules, tests, length, nat_lt}
use Rattle.std.proofs.lemmas.Iterator.Consumers.{YieldsList-at, YieldsList-from_filter, map_from_collect}
use Rattle.slice_group_by.specs.End.TheVariants.{Front}
use Rattle.example_walks.proofs.loops.all_longer.Goals as goal

pub returns : goal.returns
returns g c =
    let seen = YieldsList-at c.filter.ensures.source
    (c.sees_pieces.ensures.pieces g.T.PartialEq.eq Front c.new-groups.result (c.new-groups.ensures.settled tt)) in
    rw c.new-groups.ensures.remainder at (map_from_collect _ c.collect.ensures.ran
    (YieldsList-from_filter _ (λ x. nat_lt c.args.len (length x)) seen c.filter.ensures.closure (λ x b q k. search (rules, tests))))
