use Rattle.std.proofs.Common.{w64}
use Rattle.sgb_numbers.proofs.SignedBits.{signed_mask}
use Rattle.sgb_numbers.proofs.lanes.IsizeLanes.unlike.Goals as goal

pub returns : goal.returns
returns c = signed_mask w64 c.args.number.now c.read.ensures c.args.slice.now c.args.at c.requires c.read_all.ensures
