use Rattle.std.specs.List.{Contains}
use Rattle.sgb_search.specs.Searching.{as_ordering}
use Rattle.sgb_search.proofs.Searches.Boundaries.{never_equal}
use Rattle.sgb_search.proofs.Searches.SearchRuns.{may_places, search_boundary, may_go_on, answers_go_on}
use Rattle.sgb_search.proofs.partition.count_before.Goals as goal

pub bisect-requires-clause-two : goal.bisect-requires-clause-two
bisect-requires-clause-two g c k = never_equal (g.S.Test.passes c.args.test.now k)

pub bisect-requires-clause-callable : goal.bisect-requires-clause-callable
bisect-requires-clause-callable g c = may_places g.F.FnMut c.args.slice.now c.args.f.now c.requires

pub returns-clause-within : goal.returns-clause-within
returns-clause-within g c = c.bisect.ensures.tells.1

pub returns-clause-boundary : goal.returns-clause-boundary
returns-clause-boundary g c =
    search_boundary g.F.FnMut c.args.slice.now (λ k. as_ordering (g.S.Test.passes c.args.test.now k)) c.args.f.now _ _ c.bisect.ensures

pub returns-clause-callable : goal.returns-clause-callable
returns-clause-callable g c =
    may_go_on g.F.FnMut c.args.slice.now (λ k. as_ordering (g.S.Test.passes c.args.test.now k)) _ _ _ c.bisect.ensures
    (Contains c.args.slice.now) (λ x k. k) c.requires

pub returns-clause-computes : goal.returns-clause-computes
returns-clause-computes g c =
    answers_go_on g.F.FnMut c.args.slice.now (λ k. as_ordering (g.S.Test.passes c.args.test.now k)) _ _ _ c.bisect.ensures
    (Contains c.args.slice.now) (λ x k. k)
