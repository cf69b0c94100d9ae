use Rattle.std.proofs.Common.{refl, rules, ◌∙◌}
use Rattle.std.specs.Option.{option_to_list}
use Rattle.std.proofs.lemmas.Fn.{always_returns_same}
use Rattle.std.proofs.lemmas.List.Sums.{fold-append}
use Rattle.grouped_report.specs.Groups.{longer, same_group, summary_if}
use Rattle.grouped_report.proofs.Closing.{adds, last_kept, part_more}
use Rattle.grouped_report.proofs.groups.Groups.add_rows.Goals as goal

pub loop-begins-preserved : goal.loop-begins-preserved
loop-begins-preserved c written =
    rw (fold-append _ _ c.loop-begins.yielded _)
    (part_more written _ _ _ _ _ _ (c.loop-begins.invariant written) (c.in_ok-add_part.ensures written))

pub returns : goal.returns
returns c written came so_far =
    let settled = c.new-groups.ensures.settled same_group (always_returns_same _ _ _ (λ a r f' k. search rules)) tt in
    c.parts_close.ensures summary_if longer option_to_list refl adds same_group came c.args.rows.now _ _ _ _ _ _ _ _ so_far
    (c.loop-begins.invariant written) (last_kept came c.args.rows.now) (c.new-parts.ensures.begins ∙ c.begins.ensures came so_far.opened)
    (rw c.new-parts.ensures.groups settled) (rw c.new-parts.ensures.groups c.new-groups.ensures.remainder)
    (_, (_, (rw c.into_iter-begins-iterator.ensures.into_iter_gives at c.loop-begins.yielded_by), c.in-None.ensures.steps))
