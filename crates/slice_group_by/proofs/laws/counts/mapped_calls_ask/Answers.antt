use Rattle.std.specs.Iterator.Adapters.{map_source}
use Rattle.slice_group_by.proofs.Questions.Counting.{yields_ask, yields_map}
use Rattle.slice_group_by.proofs.laws.counts.mapped_calls_ask.Goals as goal

pub returns : goal.returns
returns g c e q t items y =
    let z = yields_map (g.Q.GroupQueue.gives e) _ q items t y in
    yields_ask (g.Q.GroupQueue.gives e) _ _ _ g.met.Q.GroupQueue.asked_none g.met.Q.GroupQueue.asked_more (g.met.Q.GroupQueue.asks_due e)
    (map_source q) (map_source t) z.0 z.1
