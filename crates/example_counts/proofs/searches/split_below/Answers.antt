use Rattle.std.proofs.Common.{arith, ◌∙◌}
use Rattle.std.specs.Ordering.{is_lt}
use Rattle.std.proofs.lemmas.List.Sums.{count_by-le-length}
use Rattle.example_counts.proofs.searches.split_below.Goals as goal

pub split_at-requires : goal.split_at-requires
split_at-requires g c =
    omega (arith, c.lower_bound.ensures, count_by-le-length (λ x. is_lt (g.T.Ord.cmp x c.args.sought.now)) c.args.slice.now)

pub returns : goal.returns
returns g c =
    let xs = c.args.slice.now in
    let sought = c.args.sought.now in
    let laws = c.searchable_is_partitioned.ensures in
    let parted = laws.less (λ x. g.T.Ord.cmp x sought) xs (c.ascending_is_searchable.ensures.by_itself sought xs c.requires) in
    record {
      below = c.split_at.ensures.front ∙ laws.before _ xs _ parted c.lower_bound.ensures;
      others = c.split_at.ensures.back ∙ laws.behind _ xs _ parted c.lower_bound.ensures;
    }
