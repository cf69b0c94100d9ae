use Rattle.std.proofs.Common.{ap, arith, length}
use Rattle.sgb_linear_str_group.proofs.text_groups.LinearStrGroups.remainder_len.Goals as goal

pub returns : goal.returns
returns g c = omega (arith, ap length c.as_str.ensures)
