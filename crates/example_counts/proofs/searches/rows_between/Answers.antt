use Rattle.std.proofs.Common.{rules, ℕ}
use Rattle.std.specs.Ordering.{nat_cmp}
use Rattle.std.specs.declared.cmp.Ordering.{Ordering}
use Rattle.std.proofs.lemmas.Fn.{always_returns_same}
use Rattle.slice_group_by.specs.Search.{between}
use Rattle.example_counts.specs.Keys.{key}
use Rattle.example_counts.proofs.searches.rows_between.Goals as goal

pub returns : goal.returns
returns c =
    let rows = c.args.rows.now in
    let ord : ℕ × ℕ → Ordering = λ row. between nat_cmp c.args.low c.args.high (key row) in
    let computes = c.always_computes.ensures rows ord _ (always_returns_same _ _ _ (λ a r f' k. search rules)) in
    c.range_places.ensures.filter ord rows _ _ (c.exponential_equal_places_by-places.ensures.range ord computes
    (c.ascending_is_searchable.ensures.between key c.args.low c.args.high rows c.requires))
