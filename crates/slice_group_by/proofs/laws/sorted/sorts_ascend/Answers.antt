use Rattle.sgb_search.proofs.Searches.AscendingGroups.{along_part}
use Rattle.slice_group_by.proofs.Pieces.Adjacent.{ascends_sorted, keys_of_neighbours}
use Rattle.slice_group_by.proofs.Pieces.Adjacent.{sort_ascends, sorted_by_key, sorted_by_key_only}
use Rattle.slice_group_by.proofs.laws.sorted.sorts_ascend.Goals as goal

pub returns-clause-by_itself : goal.returns-clause-by_itself
returns-clause-by_itself g c xs h = sort_ascends g.K.Ord.cmp g.met.K.Ord.total (λ x. x) xs h

pub returns-clause-by_key : goal.returns-clause-by_key
returns-clause-by_key g c key xs h =
    keys_of_neighbours g.K.Ord.cmp g.met.K.Ord.total key xs (sort_ascends g.K.Ord.cmp g.met.K.Ord.total key xs h)

pub returns-clause-sorted : goal.returns-clause-sorted
returns-clause-sorted g c xs h = ascends_sorted g.K.Ord.cmp g.met.K.Ord.total (λ x. x) xs h

pub returns-clause-said_by_key : goal.returns-clause-said_by_key
returns-clause-said_by_key g c =
    sorted_by_key g.K.PartialOrd.partial_cmp g.K.Ord.cmp g.met.K.Ord.total g.met.K.Ord.matches_partial_cmp

pub returns-clause-only_by_key : goal.returns-clause-only_by_key
returns-clause-only_by_key g c =
    sorted_by_key_only g.K.PartialOrd.partial_cmp g.K.Ord.cmp g.met.K.Ord.total g.met.K.Ord.matches_partial_cmp

pub returns-clause-part : goal.returns-clause-part
returns-clause-part g c = along_part _
