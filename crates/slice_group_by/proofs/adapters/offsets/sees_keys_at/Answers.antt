use Rattle.sgb_split.proofs.Splits.Split.{split_is}
use Rattle.sgb_split.specs.declared.end.End.TheVariants.{Front}
use Rattle.slice_group_by.specs.Keyed.{groups_within}
use Rattle.slice_group_by.specs.Offsets.{groups_under}
use Rattle.slice_group_by.proofs.Queues.KeyedOffsets.{keys_at}
use Rattle.slice_group_by.proofs.adapters.offsets.sees_keys_at.Goals as goal

pub returns : goal.returns
returns g c key s size stays by = record {
  runs = keys_at _ _ _ g.Q.GroupQueue.gives _ g.Q.Keyed.calls_key g.met.Q.Offsets.takes size stays key s _
      (split_is _ (g.Q.GroupQueue.remainder (groups_under (groups_within s)))).nonempty (c.sees_keys.ensures key Front s by).runs;
}
