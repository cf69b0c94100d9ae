use Rattle.slice_group_by.proofs.Pieces.Columns.{columns_split}
use Rattle.slice_group_by.proofs.laws.pieces.columns_split.Goals as goal

pub returns : goal.returns
returns g c = columns_split
