use Rattle.std.proofs.Common.{w32}
use Rattle.sgb_numbers.proofs.SignedBits.{signed_mask}
use Rattle.sgb_numbers.proofs.lanes.I32Lanes.unlike.Goals as goal

pub returns : goal.returns
returns c = signed_mask w32 c.args.number.now c.read.ensures c.args.slice.now c.args.at c.requires c.read_all.ensures
