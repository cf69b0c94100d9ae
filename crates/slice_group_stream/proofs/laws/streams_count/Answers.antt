use Rattle.std.proofs.Common.{map, ◌∙◌, ap}
use Rattle.sgb_split.specs.Split.{neighbours}
use Rattle.sgb_split.specs.declared.end.End.TheVariants.{Front}
use Rattle.slice_group_stream.proofs.JoinedParts.{yields_under}
use Rattle.slice_group_by.proofs.Questions.InOrder.{in_order, yields_in_order}
use Rattle.slice_group_stream.proofs.OverBlocks.{counts_block}
use Rattle.slice_group_stream.proofs.laws.streams_count.Goals as goal

pub returns : goal.returns
returns g c counter each limit step before block answer j s t parts run is y none so_far =
    let gives = g.S.GroupQueue.gives Front in
    let shows = g.S.GroupQueue.shows in
    let asked =
    in_order g.J.Judge (g.S.Judged.groups s.groups) (g.S.Judged.groups t.groups)
    (yields_in_order g.J.Judge gives g.S.Judged.groups shows (g.met.S.Judged.call Front) s.groups t.groups (map (λ x. x.1) parts)
    (yields_under gives shows s t parts y)) none in
    counts_block g.J.Judge.may_ask g.J.Judge.answers (λ j. (counter j).now) (λ j. (counter j).ghost_name) each limit step
    before block answer j _ _ run asked.0 asked.1 (asked.2 ∙ ap neighbours is) so_far
