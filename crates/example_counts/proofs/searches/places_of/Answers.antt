use Rattle.std.proofs.Common.{rules}
use Rattle.std.specs.Ordering.{nat_cmp}
use Rattle.std.proofs.lemmas.Fn.{always_returns_same}
use Rattle.example_counts.specs.Keys.{key}
use Rattle.example_counts.proofs.searches.places_of.Goals as goal

pub returns : goal.returns
returns c =
    let rows = c.args.rows.now in
    let places = c.exponential_equal_places_by_key in
    let computes = c.always_computes.ensures rows key _ (always_returns_same _ _ _ (λ a r f' k. search rules)) in
    c.range_places.ensures.exactly (λ row. nat_cmp (key row) c.args.sought) rows _ _ places.ensures.order places.ensures.within
    (places.ensures.sorted key computes c.requires)
