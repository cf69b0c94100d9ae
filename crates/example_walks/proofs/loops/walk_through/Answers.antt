use Rattle.std.proofs.Common.{length, arith, ap}
use Rattle.example_walks.proofs.loops.walk_through.Goals as goal

pub returns-clause-asked : goal.returns-clause-asked
returns-clause-asked g c none =
    let run = c.each_pair_asked_once.ensures.whole c.new-groups.result c.walk.new.queue _ _ c.walk.ensures.chain none in
    omega (arith, c.equality_judges.ensures _ _ _ run, c.new-groups.ensures.asked, ap length c.new-groups.ensures.remainder)
