use Rattle.slice_group_by.proofs.Pieces.PiecesOfLists.{lengths, sums}
use Rattle.slice_group_by.proofs.laws.pieces.pieces_add_up.Goals as goal

pub returns-clause-lengths : goal.returns-clause-lengths
returns-clause-lengths g c = lengths

pub returns-clause-sums : goal.returns-clause-sums
returns-clause-sums g c = sums
