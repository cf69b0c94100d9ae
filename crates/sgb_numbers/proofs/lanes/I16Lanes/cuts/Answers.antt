use Rattle.std.proofs.Common.{w16}
use Rattle.sgb_numbers.proofs.SignedBits.{signed_cuts}
use Rattle.sgb_numbers.proofs.lanes.I16Lanes.cuts.Goals as goal

pub returns : goal.returns
returns c = signed_cuts w16 c.args.slice.now c.args.at c.requires c.read_all.ensures
