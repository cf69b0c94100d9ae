use Rattle.std.proofs.Common.{w64}
use Rattle.std.specs.Float.Ieee.{eq}
use Rattle.sgb_numbers.proofs.Vectors.{mask_is}
use Rattle.sgb_numbers.proofs.lanes.F64Lanes.cuts.Goals as goal

pub returns : goal.returns
unfolding lib.Ieee.ne eq
returns c = mask_is w64 eq c.args.slice.now c.args.at c.requires
