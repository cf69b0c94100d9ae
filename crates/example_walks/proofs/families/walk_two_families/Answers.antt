use Rattle.std.proofs.Common.{sym, ◌∙◌, subst}
use Rattle.slice_group_by.specs.Search.{NeverDescends}
use Rattle.example_walks.proofs.families.walk_two_families.Goals as goal

pub returns-clause-writing : goal.returns-clause-writing
returns-clause-writing g c =
    let ascends = subst (NeverDescends g.T.Ord.cmp) (sym c.requires.same) c.requires.sorted in
    let grouped = c.ascending_is_grouped.ensures.by_itself _ ascends in
    c.families_agree.ensures g.T.PartialEq.eq c.new-others.result c.walk-2.new.queue c.new-groups.result c.walk.new.queue
    c.args.ends.now _ _ (c.new-others.ensures.settled grouped) (c.new-groups.ensures.settled tt)
    (c.new-others.ensures.remainder ∙ c.requires.same ∙ sym c.new-groups.ensures.remainder)
    c.walk-2.ensures.chain c.walk.ensures.chain
