use Rattle.sgb_split.proofs.Questions.Closures.{key_taken}
use Rattle.slice_group_by.proofs.adapters.keyed.slices.SliceGroupsKeyJudgeKeyed.first_key.Goals as goal

pub key_of-requires : goal.key_of-requires
key_of-requires g c = key_taken g.F.FnMut g.K.PartialEq.eq c.args.self.now.judge.func _ c.requires.callable
