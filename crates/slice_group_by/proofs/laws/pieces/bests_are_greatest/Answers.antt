use Rattle.slice_group_by.proofs.Pieces.Bests.{bests_among}
use Rattle.slice_group_by.proofs.Pieces.PiecesOfLists.{piece_filter}
use Rattle.slice_group_by.proofs.laws.pieces.bests_are_greatest.Goals as goal

pub returns : goal.returns
returns g c worse asymmetric transitive key xs ascends =
    bests_among worse asymmetric transitive (λ a b. g.K.PartialEq.eq (key a) (key b)) xs _
    (λ group x. piece_filter g.K.Ord.cmp g.met.K.Ord.total g.K.PartialEq.eq g.met.K.Ord.matches_eq key xs group x ascends)
