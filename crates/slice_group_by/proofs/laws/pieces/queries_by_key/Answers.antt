use Rattle.std.specs.Cmp.{back_total}
use Rattle.std.specs.Ordering.{flip_args}
use Rattle.sgb_split.proofs.Lists.Order.{ties_back}
use Rattle.slice_group_by.proofs.Pieces.Queries.{having, ranks}
use Rattle.slice_group_by.proofs.laws.pieces.queries_by_key.Goals as goal

pub returns-clause-having : goal.returns-clause-having
returns-clause-having g c f test key d xs ascends =
    having g.K.Ord.cmp g.met.K.Ord.total g.K.PartialEq.eq g.met.K.Ord.matches_eq key g.met.K.PartialEq.laws d xs ascends f test

pub returns-clause-ranks : goal.returns-clause-ranks
returns-clause-ranks g c f key d xs ascends =
    ranks g.K.Ord.cmp g.met.K.Ord.total g.K.PartialEq.eq g.met.K.Ord.matches_eq key f d g.met.K.PartialEq.laws xs ascends

pub returns-clause-ranks_down : goal.returns-clause-ranks_down
returns-clause-ranks_down g c f key d xs descends =
    ranks (flip_args g.K.Ord.cmp) (back_total g.met.K.Ord.total) g.K.PartialEq.eq
    (ties_back g.K.Ord.cmp g.K.PartialEq.eq g.met.K.Ord.matches_eq g.met.K.Ord.total) key f d g.met.K.PartialEq.laws xs descends
