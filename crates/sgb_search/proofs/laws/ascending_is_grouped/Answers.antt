use Rattle.std.specs.Cmp.{back_total}
use Rattle.std.specs.Ordering.{flip_args}
use Rattle.sgb_search.proofs.Searches.AscendingGroups.{ascending_grouped, sorted_grouped}
use Rattle.sgb_split.proofs.Lists.Order.{ties_back}
use Rattle.sgb_search.proofs.laws.ascending_is_grouped.Goals as goal

pub returns-clause-by_key : goal.returns-clause-by_key
returns-clause-by_key g c = ascending_grouped g.K.Ord.cmp g.met.K.Ord.total g.K.PartialEq.eq g.met.K.Ord.matches_eq

pub returns-clause-by_itself : goal.returns-clause-by_itself
returns-clause-by_itself g c = sorted_grouped g.K.Ord.cmp g.met.K.Ord.total g.K.PartialEq.eq g.met.K.Ord.matches_eq

pub returns-clause-descending : goal.returns-clause-descending
returns-clause-descending g c =
    sorted_grouped (flip_args g.K.Ord.cmp) (back_total g.met.K.Ord.total) g.K.PartialEq.eq
    (ties_back g.K.Ord.cmp g.K.PartialEq.eq g.met.K.Ord.matches_eq g.met.K.Ord.total)
