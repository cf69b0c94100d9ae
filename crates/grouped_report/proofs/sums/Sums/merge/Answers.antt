use Rattle.std.proofs.Common.{map, rules}
use Rattle.std.proofs.lemmas.Fn.{always_returns_same}
use Rattle.std.proofs.lemmas.List.MinMax.{ranks_by}
use Rattle.std.specs.List.Sorted.{IsSortedByKey}
use Rattle.std.specs.Ordering.{is_lt}
use Rattle.slice_group_by.specs.Split.{split as group_split}
use Rattle.grouped_report.specs.Groups.{group_cmp, group_of, same_group, summary}
use Rattle.grouped_report.specs.Sums.{sum_cmp}
use Rattle.grouped_report.proofs.Orders.{fields_total}
use Rattle.grouped_report.proofs.Pieces.{of_sorted}
use Rattle.grouped_report.proofs.Witness.{have_merge, merged_summed, ones_of_merge}
use Rattle.grouped_report.proofs.sums.Sums.merge.Goals as goal

pub returns-clause-summed : goal.returns-clause-summed
returns-clause-summed c rows summed =
    let sorted = c.sort_by.new.self.items in
    let up : IsSortedByKey group_of group_cmp sorted =
    c.in_ok-sort_by.ensures.sorted (λ x y. is_lt (group_cmp (group_of x) (group_of y))) (ranks_by fields_total group_of)
    (always_returns_same _ _ _ (λ a r f' k. search rules)) in
    let split = c.one_split.ensures.exists same_group sorted in
    let old = c.args.self.now.sums.items in
    let fresh = map summary (group_split same_group sorted) in
    let (are, ascend) = of_sorted sorted _ split up in
    let m = rw (c.replace-old.ensures.value, c.in_ok-sums.ensures, c.deref.ensures.value) at c.in_ok-self.ensures in
    let (ps, merge) = c.one_merge.ensures.sorted sum_cmp old fresh (have_merge old fresh summed.ascend ascend) in
    rw (m ps merge (ones_of_merge old fresh ps merge.merges summed.ascend ascend)) (merged_summed rows _ sorted old fresh _ ps merge.merges summed
    c.in_ok-sort_by.ensures.permutation split.covers are ascend)
