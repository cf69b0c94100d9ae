use Rattle.std.proofs.Common.{sym, ap, ◌∙◌}
use Rattle.std.specs.List.{filter}
use Rattle.std.specs.Ordering.{nat_cmp}
use Rattle.std.proofs.lemmas.Map.Lookups.{exact_unsigned}
use Rattle.std.proofs.lemmas.Result.{IfOk-weaker}
use Rattle.slice_group_by.specs.Matches.{has_partner}
use Rattle.example_joins.proofs.sets.subset.Goals as goal

pub returns : goal.returns
returns c =
    let left = c.args.left.now in
    let right = c.args.right.now in
    let sets = c.sets_ascend.ensures in
    let common = sets.common exact_unsigned left right in
    let ascends = sets.filtered (has_partner nat_cmp right) left c.requires.left in
    let same = sets.same exact_unsigned _ left ascends c.requires.left
    (λ x. (λ at. ((common x).0 at).0, λ at. (common x).1 (at, c.requires.within x at))) in
    IfOk-weaker c.intersection.result _ _
    (λ v is. is ∙ ap (λ p. filter p left) (sym (c.partners_are_equal.ensures.any (λ x. x) (λ y. y) right)) ∙ same) c.intersection.ensures
