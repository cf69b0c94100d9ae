use Rattle.sgb_groups.proofs.Outward.{front_at}
use Rattle.sgb_groups.proofs.searching.FromFrontPlaces.compare.Goals as goal

pub ask-requires : goal.ask-requires
ask-requires g c = c.requires.1 _ (front_at _ _ _ c.index-self-self.result c.requires.0)

pub returns : goal.returns
returns g c =
    (c.ask.result, (_, front_at _ _ _ c.index-self-self.result c.requires.0, c.ask.ensures), c.before_end.ensures)
