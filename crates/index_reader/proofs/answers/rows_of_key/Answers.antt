use Rattle.std.proofs.Common.{rules}
use Rattle.std.proofs.lemmas.Fn.{always_returns_same}
use Rattle.index_reader.proofs.Found.{rises, stands}
use Rattle.index_reader.proofs.answers.rows_of_key.Goals as goal

pub returns : goal.returns
returns c =
    let rows = c.args.rows.now in
    let key = c.args.query.now.key in
    let computes = c.always_computes.ensures rows (stands key) _ (always_returns_same _ _ _ (λ a r f' k. search rules)) in
    c.range_places.ensures.filter (stands key) rows _ _
    (c.exponential_equal_places_by-found.ensures.range (stands key) computes (rises key rows c.requires))
