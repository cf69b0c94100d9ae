use Rattle.std.proofs.Common.{rules, length, ◌∙◌, sym}
use Rattle.std.proofs.lemmas.Iterator.{YieldsList-from_map}
use Rattle.std.proofs.lemmas.Iterator.Consumers.{nth_from_yields_List, YieldsList-at}
use Rattle.std.proofs.lemmas.Iterator.Adapters.{option_map_id}
use Rattle.slice_group_by.specs.End.TheVariants.{Front}
use Rattle.example_walks.proofs.loops.nth_length.Goals as goal

pub returns : goal.returns
returns g c =
    let seen = YieldsList-at c.map.ensures.source
    (c.sees_pieces.ensures.pieces g.T.PartialEq.eq Front c.new-groups.result (c.new-groups.ensures.settled tt)) in
    rw c.new-groups.ensures.remainder at (sym (option_map_id _) ∙ nth_from_yields_List {v = λ r. r} _ _ _ c.nth.ensures.ran
    (YieldsList-from_map _ length seen c.map.ensures.closure (λ x r q k. search rules)))
