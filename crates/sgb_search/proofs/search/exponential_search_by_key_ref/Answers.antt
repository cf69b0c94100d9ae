use Rattle.std.specs.List.{Contains}
use Rattle.sgb_search.proofs.Searches.SearchRuns.{may_places, search_boundary, finds, may_go_on, answers_go_on}
use Rattle.sgb_search.proofs.Searches.Ascending.{ascends}
use Rattle.sgb_search.proofs.search.exponential_search_by_key_ref.Goals as goal

pub gallop-requires-clause-callable : goal.gallop-requires-clause-callable
gallop-requires-clause-callable g c = may_places g.F.FnMut c.args.slice.now c.args.f.now c.requires

pub returns-clause-boundary : goal.returns-clause-boundary
returns-clause-boundary g c =
    search_boundary g.F.FnMut c.args.slice.now (λ k. g.B.Ord.cmp k c.args.b.now) c.args.f.now _ _ c.gallop.ensures

pub returns-clause-found : goal.returns-clause-found
returns-clause-found g c key by =
    finds (λ x. g.B.Ord.cmp (key x) c.args.b.now) c.args.slice.now c.gallop.result (returns-clause-boundary g c key by)

pub returns-clause-sorted : goal.returns-clause-sorted
returns-clause-sorted g c key by up =
    returns-clause-found g c key by (ascends g.B.Ord.cmp g.met.B.Ord.total c.args.b.now key c.args.slice.now up)

pub returns-clause-callable : goal.returns-clause-callable
returns-clause-callable g c =
    may_go_on g.F.FnMut c.args.slice.now (λ k. g.B.Ord.cmp k c.args.b.now) _ _ _ c.gallop.ensures (Contains c.args.slice.now) (λ x k. k)
    c.requires

pub returns-clause-computes : goal.returns-clause-computes
returns-clause-computes g c =
    answers_go_on g.F.FnMut c.args.slice.now (λ k. g.B.Ord.cmp k c.args.b.now) _ _ _ c.gallop.ensures (Contains c.args.slice.now)
    (λ x k. k)
