use Rattle.sgb_search.proofs.Searches.BeforePlace as place
use Rattle.sgb_search.proofs.Searches.Partitions.{less_first, not_greater_first}
use Rattle.sgb_search.proofs.laws.searchable_is_partitioned.Goals as goal

pub returns-clause-less : goal.returns-clause-less
returns-clause-less g c = less_first

pub returns-clause-not_greater : goal.returns-clause-not_greater
returns-clause-not_greater g c = not_greater_first

pub returns-clause-before : goal.returns-clause-before
returns-clause-before g c = place.before

pub returns-clause-behind : goal.returns-clause-behind
returns-clause-behind g c = place.behind

pub returns-clause-last : goal.returns-clause-last
returns-clause-last g c = place.last_before
