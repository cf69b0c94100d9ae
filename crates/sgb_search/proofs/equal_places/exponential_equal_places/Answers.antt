use Rattle.std.proofs.Common.{rules}
use Rattle.sgb_split.proofs.Questions.Runs.{answers_same}
use Rattle.sgb_search.proofs.Searches.Ascending.{ascends_itself}
use Rattle.sgb_search.proofs.equal_places.exponential_equal_places.Goals as goal

pub returns-clause-local : goal.returns-clause-local
returns-clause-local g c =
    c.exponential_equal_places_by.ensures.local (λ x. g.T.Ord.cmp x c.args.elem.now) (answers_same _ _ _ _ _ (λ q a t k. search rules))

pub returns-clause-range : goal.returns-clause-range
returns-clause-range g c =
    c.exponential_equal_places_by.ensures.range (λ x. g.T.Ord.cmp x c.args.elem.now) (answers_same _ _ _ _ _ (λ q a t k. search rules))

pub returns-clause-sorted : goal.returns-clause-sorted
returns-clause-sorted g c up = returns-clause-range g c (ascends_itself g.T.Ord.cmp g.met.T.Ord.total c.args.elem.now c.args.slice.now up)
