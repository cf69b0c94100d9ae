use Rattle.slice_group_by.proofs.Pieces.PiecesOfLists.{piece_copied, copied_back, decodes}
use Rattle.slice_group_by.proofs.laws.pieces.equal_pieces_are_copies.Goals as goal

pub returns-clause-one : goal.returns-clause-one
returns-clause-one g c = piece_copied

pub returns-clause-copies : goal.returns-clause-copies
returns-clause-copies g c = copied_back

pub returns-clause-decode : goal.returns-clause-decode
returns-clause-decode g c = decodes
