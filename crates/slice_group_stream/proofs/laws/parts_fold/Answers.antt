use Rattle.std.proofs.Common.{Bool, List, flat_map, map, sym, ap, ◌∙◌}
use Rattle.std.specs.List.{fold}
use Rattle.std.proofs.lemmas.List.Folds.{fold-map}
use Rattle.sgb_split.specs.Split.{split}
use Rattle.slice_group_stream.specs.Streams.{add_part, add_values, of_nonempty}
use Rattle.slice_group_stream.proofs.FoldedParts.{folded, folded_nonempty}
use Rattle.slice_group_stream.proofs.StreamParts.{parts_of_block, parts_some, pieces_some}
use Rattle.slice_group_stream.proofs.laws.parts_fold.Goals as goal

pub returns-clause-map : goal.returns-clause-map
returns-clause-map g c first more adds p before block values s parts known settled is begins drains =
    let shows = g.Q.GroupQueue.shows in
    let shown : List (Bool × List g.row.Q-Element.Denot) = map (λ (x : Bool × g.row.Q-Item.Denot). (x.0, shows x.1)) parts in
    sym (fold-map (add_part first more) (λ x. (x.0, shows x.1)) values parts)
    ∙ ap (λ l. fold (add_part first more) l shown) known
    ∙ folded first more adds (split p before) shown (pieces_some p before)
    (parts_some _ _ _ g.met.Q.GroupQueue.part s drains.1.0 parts drains.1.1)
    ∙ ap (map first) (parts_of_block _ _ _ _ g.met.Q.GroupQueue.piece p before block s parts settled is begins drains)

pub returns-clause-nonempty : goal.returns-clause-nonempty
returns-clause-nonempty g c first more adds p before block values s parts known settled is begins drains =
    let shows = g.Q.GroupQueue.shows in
    let shown : List (Bool × List g.row.Q-Element.Denot) = map (λ (x : Bool × g.row.Q-Item.Denot). (x.0, shows x.1)) parts in
    sym (fold-map (add_values (of_nonempty first) more) (λ x. (x.0, shows x.1)) values parts)
    ∙ ap (λ l. fold (add_values (of_nonempty first) more) l shown) known
    ∙ folded_nonempty first more adds (split p before) shown (pieces_some p before)
    (parts_some _ _ _ g.met.Q.GroupQueue.part s drains.1.0 parts drains.1.1)
    ∙ ap (flat_map (of_nonempty first)) (parts_of_block _ _ _ _ g.met.Q.GroupQueue.piece p before block s parts settled is begins drains)
