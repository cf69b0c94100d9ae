use Rattle.std.proofs.Common.{w16}
use Rattle.sgb_numbers.proofs.SignedBits.{signed_mask}
use Rattle.sgb_numbers.proofs.lanes.I16Lanes.unlike.Goals as goal

pub returns : goal.returns
returns c = signed_mask w16 c.args.number.now c.read.ensures c.args.slice.now c.args.at c.requires c.read_all.ensures
