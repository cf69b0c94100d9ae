use Rattle.std.proofs.Common.{Bool, List, map, sym, ap, ◌∙◌}
use Rattle.std.specs.List.{fold}
use Rattle.std.proofs.lemmas.List.Folds.{fold-map}
use Rattle.sgb_split.specs.Split.{split}
use Rattle.sgb_split.specs.declared.end.End.TheVariants.{Front}
use Rattle.slice_group_stream.proofs.JoinedParts as joined
use Rattle.slice_group_stream.proofs.StreamParts.{parts_of_block, parts_some, pieces_some}
use Rattle.slice_group_stream.specs.Closing.{take_part}
use Rattle.slice_group_stream.proofs.ClosedGroups as closed
use Rattle.slice_group_stream.proofs.laws.parts_close.Goals as goal

pub returns : goal.returns
returns g c kept more close none adds p came block before after made made' value value' s parts k new kept_last begins settled is drains =
    let shows = g.Q.GroupQueue.shows in
    let shown : List (Bool × List g.row.Q-Element.Denot) = map (λ (x : Bool × g.row.Q-Item.Denot). (x.0, shows x.1)) parts in
    let begins_it = rw k.stream at begins in
    let all = new
    ∙ (λ i. fold (λ m x. take_part kept more close m (x.0, shows x.1)) (k.closed i, k.opened i) parts)
    ∙ sym (fold-map (take_part kept more close) (λ x. (x.0, shows x.1)) (closed.so_far kept close none (split p came)) parts)
    ∙ closed.of_block kept close none more adds p came block s.begins (map shows (map (λ x. x.1) parts)) shown
    (joined.flags (g.Q.GroupQueue.gives Front) shows s drains.1.0 parts drains.1.1)
    (pieces_some p came) (parts_some _ _ _ g.met.Q.GroupQueue.part s drains.1.0 parts drains.1.1) begins_it
    ∙ ap (closed.so_far kept close none) (parts_of_block _ _ _ _ g.met.Q.GroupQueue.piece p came block s parts settled is begins_it drains) in
    record {
      stream = (rw k.stream at kept_last) ∙ sym (joined.last_kept came block);
      closed = λ i. (all i).0;
      opened = λ i. (all i).1;
    }
