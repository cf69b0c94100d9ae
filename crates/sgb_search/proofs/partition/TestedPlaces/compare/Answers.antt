use Rattle.std.proofs.Common.{refl, sym, ap, ◌∙◌}
use Rattle.std.proofs.lemmas.Option.{slice_get_read}
use Rattle.sgb_search.specs.Searching.{as_ordering}
use Rattle.sgb_search.proofs.partition.TestedPlaces.compare.Goals as goal

pub returns : goal.returns
returns g c = (
  c.asker.result,
  (
    c.index-self-place.result,
    slice_get_read _ _ c.args.place _ refl c.requires.0 c.index-self-place.is,
    record { shown = _; shows = sym c.index-self-place.is; called = c.asker.ensures },
  ),
  c.before_end.ensures ∙ ap as_ordering c.is_passed.ensures,
)
