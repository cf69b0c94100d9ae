use Rattle.std.proofs.Common.{◌++◌, ◌∙◌}
use Rattle.sgb_split.specs.Split.{split}
use Rattle.slice_group_stream.proofs.ClosedGroups.{ends}
use Rattle.slice_group_stream.proofs.laws.groups_close.Goals as goal

pub returns : goal.returns
returns g c = record {
  all = λ p kept close before made value came none k.
      (λ i. k.closed i ++ close (k.opened i)) ∙ ends kept close none (split p came);
}
