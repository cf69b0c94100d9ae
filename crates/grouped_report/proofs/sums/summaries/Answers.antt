use Rattle.std.proofs.Common.{rules, ap, ◌∙◌, flat_map}
use Rattle.std.specs.Option.{option_to_list}
use Rattle.std.proofs.lemmas.Fn.{always_returns_same}
use Rattle.slice_group_by.specs.End.TheVariants.{Front}
use Rattle.grouped_report.specs.Groups.{same_group, summary_if}
use Rattle.grouped_report.proofs.Closing.{made_of}
use Rattle.grouped_report.proofs.sums.summaries.Goals as goal

pub returns : goal.returns
returns c =
    let settled = c.new-groups.ensures.settled same_group (always_returns_same _ _ _ (λ a r f' k. search rules)) tt in
    let yielded = rw c.into_iter-group-iterator.ensures.into_iter_gives at c.loop-group.yielded_by in
    let whole = c.sees_pieces.ensures.whole same_group Front _ _ settled (_, (_, yielded, c.in-None.ensures.steps)) in
    c.loop-group.invariant ∙ ap (flat_map (λ g. option_to_list (summary_if g))) (rw c.new-groups.ensures.remainder at whole)
    ∙ made_of _ (c.one_split.ensures.exists same_group c.args.rows.now).nonempty
