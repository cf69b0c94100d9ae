use Rattle.sgb_search.proofs.Searches.RangePlaces.{starts_at, ends_at, parted, range_at_counts, filters, exactly}
use Rattle.sgb_search.proofs.laws.range_places.Goals as goal

pub returns-clause-start : goal.returns-clause-start
returns-clause-start g c = starts_at

pub returns-clause-end : goal.returns-clause-end
returns-clause-end g c = ends_at

pub returns-clause-whole : goal.returns-clause-whole
returns-clause-whole g c = parted

pub returns-clause-range : goal.returns-clause-range
returns-clause-range g c = range_at_counts

pub returns-clause-filter : goal.returns-clause-filter
returns-clause-filter g c = filters

pub returns-clause-exactly : goal.returns-clause-exactly
returns-clause-exactly g c = exactly
