use Rattle.std.proofs.Common.{arith}
use Rattle.std.proofs.lemmas.Grind.{common_steps}
use Rattle.sgb_linear_str_group.proofs.text_groups.LinearStrGroupsIterator.next.Goals as goal

pub returns : goal.returns
returns g c = record { steps = c.next_at.ensures.gives; goes = grind (arith, common_steps) }
