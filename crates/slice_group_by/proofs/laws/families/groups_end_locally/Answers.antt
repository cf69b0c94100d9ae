use Rattle.std.proofs.Common.{Some}
use Rattle.sgb_search.proofs.Searches.SearchQueue.{ends_locally, computes_on}
use Rattle.slice_group_by.proofs.laws.families.groups_end_locally.Goals as goal

pub returns-clause-ends : goal.returns-clause-ends
returns-clause-ends g c p e s t group m h =
    ends_locally g.J.Judge g.S.GroupSearch.cost p e (g.G.Judged.groups s) (g.G.GroupQueue.shows group) (g.G.Judged.groups t) m
    (g.met.G.Judged.call e s (Some group) t h)

pub returns-clause-computes : goal.returns-clause-computes
returns-clause-computes g c p e s t group m h =
    computes_on g.J.Judge g.S.GroupSearch.cost p e (g.G.Judged.groups s) (Some (g.G.GroupQueue.shows group)) (g.G.Judged.groups t)
    (g.met.G.Judged.call e s (Some group) t h) m
