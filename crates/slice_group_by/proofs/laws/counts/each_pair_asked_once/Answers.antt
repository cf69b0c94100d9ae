use Rattle.slice_group_by.proofs.Questions.PairsAsked.{chain_asks_once, whole_asks}
use Rattle.slice_group_by.proofs.laws.counts.each_pair_asked_once.Goals as goal

pub returns-clause-pairs : goal.returns-clause-pairs
returns-clause-pairs g c = chain_asks_once g.J.Judge g.S.GroupQueue.gives g.S.Judged.groups g.S.GroupQueue.shows g.met.S.Judged.call

pub returns-clause-whole : goal.returns-clause-whole
returns-clause-whole g c s t es os h z =
    whole_asks g.J.Judge (g.S.Judged.groups s) (g.S.Judged.groups t) (returns-clause-pairs g c s t es os h) z
