use Rattle.std.proofs.Common.{[], take, drop, sym, ap, subst, ◌++◌, ◌∙◌}
use Rattle.std.proofs.lemmas.Iterator.Consumers.{count_from_yields_List}
use Rattle.std.proofs.lemmas.List.{append-nil, take-append-drop}
use Rattle.slice_group_by.specs.End.TheVariants.{Front}
use Rattle.slice_group_by.specs.Search.{NeverDescends}
use Rattle.example_walks.proofs.families.count_from.Goals as goal

pub returns : goal.returns
returns g c =
    let xs = c.args.slice.now in
    let start = c.args.start in
    let whole = ap (λ l. take start xs ++ l) (append-nil (drop start xs)) ∙ take-append-drop start xs in
    let part = c.sorts_ascend.ensures.part (take start xs) (drop start xs) []
    (subst (NeverDescends g.T.Ord.cmp) (sym whole) c.requires.sorted) in
    let grouped = c.ascending_is_grouped.ensures.by_itself _ part in
    let settled = c.new-groups.ensures.settled (rw c.split_at.ensures.back grouped) in
    rw (c.new-groups.ensures.remainder, c.split_at.ensures.back) at
    (count_from_yields_List _ _ c.count.ensures.ran
    (c.sees_pieces.ensures.pieces g.T.PartialEq.eq Front c.new-groups.result settled))
