use Rattle.std.proofs.Common.{rules}
use Rattle.std.specs.Ordering.{is_lt}
use Rattle.std.proofs.lemmas.Fn.{always_returns_same}
use Rattle.example_counts.proofs.searches.lower_bound.Goals as goal

pub returns : goal.returns
returns g c =
    let xs = c.args.slice.now in
    let sought = c.args.sought.now in
    c.exponential_partition_point.ensures.count (λ x. is_lt (g.T.Ord.cmp x sought))
    (c.always_computes.ensures xs (λ x. is_lt (g.T.Ord.cmp x sought)) _ (always_returns_same _ _ _ (λ a r f' k. search rules)))
    (c.searchable_is_partitioned.ensures.less (λ x. g.T.Ord.cmp x sought) xs
    (c.ascending_is_searchable.ensures.by_itself sought xs c.requires))
