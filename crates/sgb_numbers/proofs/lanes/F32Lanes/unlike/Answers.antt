use Rattle.std.proofs.Common.{w32}
use Rattle.std.specs.Float.Ieee.{eq}
use Rattle.sgb_numbers.proofs.Vectors.{unlike_is}
use Rattle.sgb_numbers.proofs.lanes.F32Lanes.unlike.Goals as goal

pub returns : goal.returns
unfolding lib.Ieee.ne eq
returns c = unlike_is w32 eq c.args.slice.now c.args.at c.args.number.now c.requires
