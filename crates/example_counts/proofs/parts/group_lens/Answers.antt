use Rattle.std.proofs.Common.{rules, length, nat_eq}
use Rattle.std.proofs.lemmas.Iterator.{YieldsList-from_map, items_from_collect}
use Rattle.std.proofs.lemmas.Iterator.Consumers.{YieldsList-at}
use Rattle.slice_group_by.specs.End.TheVariants.{Front}
use Rattle.example_counts.proofs.parts.group_lens.Goals as goal

pub returns : goal.returns
returns c =
    let seen = YieldsList-at c.map.ensures.source
    (c.sees_pieces.ensures.pieces nat_eq Front c.new-groups.result (c.new-groups.ensures.settled tt)) in
    rw c.new-groups.ensures.remainder at (items_from_collect _ c.collect.ensures.ran
    (YieldsList-from_map _ length seen c.map.ensures.closure (λ x r q k. search rules)))
