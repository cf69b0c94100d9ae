use Rattle.sgb_search.proofs.Searches.Ascending.{ascends, ascends_itself, ascends_between}
use Rattle.sgb_search.proofs.laws.ascending_is_searchable.Goals as goal

pub returns-clause-by_key : goal.returns-clause-by_key
returns-clause-by_key g c key sought = ascends g.K.Ord.cmp g.met.K.Ord.total sought key

pub returns-clause-by_itself : goal.returns-clause-by_itself
returns-clause-by_itself g c = ascends_itself g.K.Ord.cmp g.met.K.Ord.total

pub returns-clause-between : goal.returns-clause-between
returns-clause-between g c key low high = ascends_between g.K.Ord.cmp g.met.K.Ord.total low high key
