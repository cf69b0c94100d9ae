use Rattle.std.proofs.Common.{take, length, ap, ◌+◌}
use Rattle.sgb_groups.specs.Gives.{groups_of}
use Rattle.sgb_groups.proofs.ShardCuts.{cut_behind}
use Rattle.sgb_groups.proofs.groups.SliceGroups.take_shard.Goals as goal

pub returns-clause-cut : goal.returns-clause-cut
returns-clause-cut g c =
    cut_behind (g.W.Way.asks _ _ g.J.Judge) c.args.place (groups_of c.args.self.now) c.next_from-rest.result.now _ _ c.requires.within
    c.next_from-rest.ensures.call (ap (take (c.args.place + length c.next_from-rest.result.now)) c.remainder-remainder.ensures)
