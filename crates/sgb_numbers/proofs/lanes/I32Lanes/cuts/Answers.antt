use Rattle.std.proofs.Common.{w32}
use Rattle.sgb_numbers.proofs.SignedBits.{signed_cuts}
use Rattle.sgb_numbers.proofs.lanes.I32Lanes.cuts.Goals as goal

pub returns : goal.returns
returns c = signed_cuts w32 c.args.slice.now c.args.at c.requires c.read_all.ensures
