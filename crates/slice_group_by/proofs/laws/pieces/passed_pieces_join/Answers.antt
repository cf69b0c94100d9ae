use Rattle.slice_group_by.proofs.Pieces.Queries.{passed_pieces}
use Rattle.slice_group_by.proofs.laws.pieces.passed_pieces_join.Goals as goal

pub returns : goal.returns
returns g c = passed_pieces
