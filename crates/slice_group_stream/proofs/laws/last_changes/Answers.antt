use Rattle.slice_group_stream.proofs.FoldedParts.{last_set}
use Rattle.slice_group_stream.proofs.laws.last_changes.Goals as goal

pub returns : goal.returns
returns g c = last_set
