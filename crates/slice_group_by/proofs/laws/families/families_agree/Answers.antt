use Rattle.slice_group_by.proofs.Queues.FamiliesAgree.{queues_agree}
use Rattle.slice_group_by.proofs.laws.families.families_agree.Goals as goal

pub returns : goal.returns
returns g c p = queues_agree p _ _ _ _ g.met.Q.GroupQueue.piece _ _ _ _ g.met.R.GroupQueue.piece
