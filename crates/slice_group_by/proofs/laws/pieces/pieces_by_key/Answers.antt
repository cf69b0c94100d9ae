use Rattle.std.proofs.Common.{◌∙◌}
use Rattle.slice_group_by.proofs.Pieces.PiecesOfLists.{firsts_climb, keyed_by_first, keyed_filters, piece_filter}
use Rattle.sgb_split.proofs.Splits.Split.{split_is}
use Rattle.slice_group_by.proofs.laws.pieces.pieces_by_key.Goals as goal

pub returns-clause-firsts : goal.returns-clause-firsts
returns-clause-firsts g c key =
    firsts_climb g.K.Ord.cmp g.met.K.Ord.total g.K.PartialEq.eq g.met.K.Ord.matches_eq key g.met.K.PartialEq.laws

pub returns-clause-each : goal.returns-clause-each
returns-clause-each g c key xs group x ascends =
    piece_filter g.K.Ord.cmp g.met.K.Ord.total g.K.PartialEq.eq g.met.K.Ord.matches_eq key xs group x ascends

pub returns-clause-keyed : goal.returns-clause-keyed
returns-clause-keyed g c key xs ascends =
    keyed_filters g.K.Ord.cmp g.met.K.Ord.total g.K.PartialEq.eq g.met.K.Ord.matches_eq key g.met.K.PartialEq.laws xs ascends

pub returns-clause-by_first : goal.returns-clause-by_first
returns-clause-by_first g c key d xs ascends =
    keyed_by_first key d _ (split_is _ xs).nonempty
    ∙ keyed_filters g.K.Ord.cmp g.met.K.Ord.total g.K.PartialEq.eq g.met.K.Ord.matches_eq key g.met.K.PartialEq.laws xs ascends
