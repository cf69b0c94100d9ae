use Rattle.std.proofs.Common.{w64}
use Rattle.sgb_numbers.proofs.SignedBits.{signed_cuts}
use Rattle.sgb_numbers.proofs.lanes.IsizeLanes.cuts.Goals as goal

pub returns : goal.returns
returns c = signed_cuts w64 c.args.slice.now c.args.at c.requires c.read_all.ensures
