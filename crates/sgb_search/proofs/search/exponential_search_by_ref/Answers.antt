use Rattle.std.specs.List.{Contains}
use Rattle.sgb_search.proofs.Searches.SearchRuns.{may_places, search_boundary, finds, may_go_on, answers_go_on}
use Rattle.sgb_search.proofs.search.exponential_search_by_ref.Goals as goal

pub gallop-requires-clause-callable : goal.gallop-requires-clause-callable
gallop-requires-clause-callable g c = may_places g.F.FnMut c.args.slice.now c.args.f.now c.requires

pub returns-clause-boundary : goal.returns-clause-boundary
returns-clause-boundary g c = search_boundary g.F.FnMut c.args.slice.now (λ o. o) c.args.f.now _ _ c.gallop.ensures

pub returns-clause-found : goal.returns-clause-found
returns-clause-found g c ord by = finds ord c.args.slice.now c.gallop.result (returns-clause-boundary g c ord by)

pub returns-clause-callable : goal.returns-clause-callable
returns-clause-callable g c =
    may_go_on g.F.FnMut c.args.slice.now (λ o. o) _ _ _ c.gallop.ensures (Contains c.args.slice.now) (λ x k. k) c.requires

pub returns-clause-computes : goal.returns-clause-computes
returns-clause-computes g c =
    answers_go_on g.F.FnMut c.args.slice.now (λ o. o) _ _ _ c.gallop.ensures (Contains c.args.slice.now) (λ x k. k)
