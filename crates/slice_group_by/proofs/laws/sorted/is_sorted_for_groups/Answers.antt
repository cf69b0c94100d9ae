use Rattle.sgb_search.proofs.Searches.AscendingGroups.{sorted_grouped}
use Rattle.slice_group_by.proofs.Pieces.Adjacent.{sorted_never_descends, never_descends_sorted}
use Rattle.slice_group_by.proofs.laws.sorted.is_sorted_for_groups.Goals as goal

pub returns-clause-sorted : goal.returns-clause-sorted
returns-clause-sorted g c =
    sorted_never_descends g.T.PartialOrd.partial_cmp g.T.Ord.cmp g.met.T.Ord.matches_partial_cmp _ _ c.is_sorted.ensures.cases

pub returns-clause-only : goal.returns-clause-only
returns-clause-only g c =
    never_descends_sorted g.T.PartialOrd.partial_cmp g.T.Ord.cmp g.met.T.Ord.matches_partial_cmp _ _ c.is_sorted.ensures.cases

pub returns-clause-grouped : goal.returns-clause-grouped
returns-clause-grouped g c e =
    sorted_grouped g.T.Ord.cmp g.met.T.Ord.total g.T.PartialEq.eq g.met.T.Ord.matches_eq _ (returns-clause-sorted g c e)
