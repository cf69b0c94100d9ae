use Rattle.std.proofs.Common.{rules, ap, sym, ◌∙◌, subst, List, map}
use Rattle.std.proofs.lemmas.Fn.{always_returns_same}
use Rattle.slice_merge_join.specs.Merge.{IsMerge}
use Rattle.grouped_report.specs.Groups.{Summary}
use Rattle.grouped_report.specs.Sums.{counts_of, sum_cmp}
use Rattle.grouped_report.proofs.sums.part_counts.Goals as goal

pub returns : goal.returns
returns c ps merge =
    let join = c.new-join.result in
    let sides = c.new-join.ensures.sides in
    let merge' : IsMerge sum_cmp join.left.now join.right.now ps =
    subst (λ (xs : List Summary). IsMerge sum_cmp xs join.right.now ps) (sym (λ i. (sides i).left))
    (subst (λ (ys : List Summary). IsMerge sum_cmp c.args.left.now ys ps) (sym (λ i. (sides i).right)) merge) in
    let yielded = rw c.into_iter-part-iterator.ensures.into_iter_gives at c.loop-part.yielded_by in
    c.loop-part.invariant ∙ ap (map counts_of) (c.sees_merge.ensures.whole sum_cmp join ps c.loop-part.yielded
    (c.always_compares.ensures.answers sum_cmp _ _ _ (always_returns_same _ _ _ (λ a r f' k. search rules))) merge'
    (c.next.new.self, (_, yielded, c.in-None.ensures.steps)))
