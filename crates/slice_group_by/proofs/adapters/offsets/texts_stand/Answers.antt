use Rattle.slice_group_by.proofs.Queues.Offsets.{each_between}
use Rattle.slice_group_by.proofs.adapters.offsets.texts_stand.Goals as goal

pub returns : goal.returns
returns g c = each_between g.J.Judge
