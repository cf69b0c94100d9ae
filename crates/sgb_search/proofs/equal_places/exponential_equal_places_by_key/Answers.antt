use Rattle.sgb_search.proofs.Searches.Ascending.{ascends}
use Rattle.sgb_search.proofs.Searches.Partitions.{range_at}
use Rattle.sgb_search.proofs.equal_places.exponential_equal_places_by_key.Goals as goal

pub returns-clause-range : goal.returns-clause-range
returns-clause-range g c key by up =
    range_at (λ x. g.B.Ord.cmp (key x) c.args.b.now) c.args.slice.now _ _ up (c.places.ensures.local key by)

pub returns-clause-sorted : goal.returns-clause-sorted
returns-clause-sorted g c key by up =
    returns-clause-range g c key by (ascends g.B.Ord.cmp g.met.B.Ord.total c.args.b.now key c.args.slice.now up)
