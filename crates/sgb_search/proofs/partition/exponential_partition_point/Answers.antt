use Rattle.sgb_search.proofs.Searches.Partitions.{parts_at, passing_count}
use Rattle.sgb_search.proofs.partition.exponential_partition_point.Goals as goal

pub returns-clause-partitioned : goal.returns-clause-partitioned
returns-clause-partitioned g c passes by = parts_at passes c.args.slice.now _ (c.count_before.ensures.boundary passes by)

pub returns-clause-count : goal.returns-clause-count
returns-clause-count g c passes by =
    passing_count passes c.args.slice.now _ c.count_before.ensures.within (c.count_before.ensures.boundary passes by)
