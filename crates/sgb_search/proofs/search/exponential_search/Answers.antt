use Rattle.std.proofs.Common.{rules}
use Rattle.sgb_split.proofs.Questions.Runs.{answers_same}
use Rattle.sgb_search.proofs.Searches.Ascending.{ascends_itself}
use Rattle.sgb_search.proofs.search.exponential_search.Goals as goal

pub returns-clause-boundary : goal.returns-clause-boundary
returns-clause-boundary g c =
    c.exponential_search_by.ensures.boundary (λ x. g.T.Ord.cmp x c.args.elem.now) (answers_same _ _ _ _ _ (λ q a t k. search rules))

pub returns-clause-found : goal.returns-clause-found
returns-clause-found g c =
    c.exponential_search_by.ensures.found (λ x. g.T.Ord.cmp x c.args.elem.now) (answers_same _ _ _ _ _ (λ q a t k. search rules))

pub returns-clause-sorted : goal.returns-clause-sorted
returns-clause-sorted g c up = returns-clause-found g c (ascends_itself g.T.Ord.cmp g.met.T.Ord.total c.args.elem.now c.args.slice.now up)
