use Rattle.std.proofs.Common.{◌+◌, Bool, List, sym, ap, ◌∙◌, [], ◌∷◌, map}
use Rattle.std.proofs.lemmas.List.{map-append}
use Rattle.std.specs.List.{count_by}
use Rattle.std.proofs.lemmas.List.Folds.{fold-map}
use Rattle.sgb_split.specs.Split.{concat, split}
use Rattle.sgb_split.specs.declared.end.End.TheVariants.{Front}
use Rattle.slice_group_stream.specs.Streams.{with_parts}
use Rattle.slice_group_stream.proofs.JoinedParts as joined
use Rattle.slice_group_stream.proofs.FoldedParts.{counted}
use Rattle.slice_group_by.proofs.Queues.Yields.{drains_parts}
use Rattle.slice_group_stream.proofs.StreamParts.{parts_of_block, parts_some, pieces_some}
use Rattle.slice_group_stream.proofs.laws.parts_join.Goals as goal

pub returns-clause-whole : goal.returns-clause-whole
returns-clause-whole g c s parts drains =
    let gives = g.Q.GroupQueue.gives Front in
    let shows = g.Q.GroupQueue.shows in
    let t = drains.0 in
    let j = drains.1.0 in
    ap concat (joined.shown_alone (g.Q.GroupQueue.gives Front) shows parts)
    ∙ drains_parts _ _ _ g.met.Q.GroupQueue.part Front s.groups (map (λ x. x.1) parts)
    (t.groups, (j.groups, joined.yields_under gives shows s j parts drains.1.1, drains.1.2.0))

pub returns-clause-block : goal.returns-clause-block
returns-clause-block g c p before block s parts settled is begins drains =
    parts_of_block _ _ _ _ g.met.Q.GroupQueue.piece p before block s parts settled is begins drains

pub returns-clause-count : goal.returns-clause-count
returns-clause-count g c test stays p before block s parts settled is begins drains =
    let shows = g.Q.GroupQueue.shows in
    ap (count_by test) (sym (parts_of_block _ _ _ _ g.met.Q.GroupQueue.piece p before block s parts settled is begins drains))
    ∙ counted test stays (split p before) (map (λ x. (x.0, shows x.1)) parts) (pieces_some p before)
    (parts_some _ _ _ g.met.Q.GroupQueue.part s drains.1.0 parts drains.1.1)
    ∙ ap (λ n. count_by test (split p before) + n) (fold-map _ (λ x. (x.0, shows x.1)) 0 parts)

pub returns-clause-kept : goal.returns-clause-kept
returns-clause-kept g c before block = joined.last_kept before block

pub returns-clause-turn : goal.returns-clause-turn
returns-clause-turn g c groups parts part =
    let shown : List (Bool × List g.row.Q-Element.Denot) = map (λ (x : Bool × g.row.Q-Item.Denot). (x.0, g.Q.GroupQueue.shows x.1)) parts in
    ap (with_parts groups) (map-append _ parts (part ∷ [])) ∙ joined.with_parts_more groups shown (part.0, g.Q.GroupQueue.shows part.1)

pub returns-clause-nonempty : goal.returns-clause-nonempty
returns-clause-nonempty g c s t part gives = (g.met.Q.GroupQueue.part Front s.groups _ t.groups gives.0).0
