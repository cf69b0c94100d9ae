use Rattle.std.proofs.Common.{map, ◌∙◌, ap}
use Rattle.sgb_split.specs.Split.{neighbours}
use Rattle.sgb_split.specs.declared.end.End.TheVariants.{Front}
use Rattle.slice_group_stream.proofs.JoinedParts.{yields_under}
use Rattle.slice_group_by.proofs.Questions.InOrder.{in_order, yields_in_order}
use Rattle.slice_group_stream.proofs.OverBlocks.{counts_keys}
use Rattle.slice_group_stream.proofs.laws.streams_count_keys.Goals as goal

pub returns : goal.returns
returns g c counter each limit step elements block f before after begins s t parts ends is y none so_far =
    let gives = g.S.GroupQueue.gives Front in
    let shows = g.S.GroupQueue.shows in
    let asked =
    in_order _ (g.S.Judged.groups s.groups) (g.S.Judged.groups t.groups)
    (yields_in_order _ gives g.S.Judged.groups shows (g.met.S.Judged.call Front) s.groups t.groups (map (λ x. x.1) parts)
    (yields_under gives shows s t parts y)) none in
    counts_keys g.F.FnMut g.K.PartialEq.eq (λ f. (counter f).now) (λ f. (counter f).ghost_name) each limit step
    elements block f before after begins _ _ ends asked.0 asked.1 (asked.2 ∙ ap neighbours is) so_far
