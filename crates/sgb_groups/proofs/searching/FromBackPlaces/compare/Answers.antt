use Rattle.sgb_groups.proofs.Outward.{front_at}
use Rattle.sgb_groups.proofs.searching.FromBackPlaces.compare.Goals as goal

pub ask-requires : goal.ask-requires
ask-requires g c = c.requires.1.1 _ (front_at _ _ _ c.index-self-index.result c.requires.1.0)

pub returns : goal.returns
returns g c =
    (c.ask.result, (_, front_at _ _ _ c.index-self-index.result c.requires.1.0, c.ask.ensures), c.before_end.ensures)
