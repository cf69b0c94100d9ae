use Rattle.sgb_search.proofs.Searches.Partitions.{range_at}
use Rattle.sgb_search.proofs.equal_places.exponential_equal_places_by_ref.Goals as goal

pub returns-clause-range : goal.returns-clause-range
returns-clause-range g c ord by up = range_at ord c.args.slice.now _ _ up (c.places.ensures.local ord by)
