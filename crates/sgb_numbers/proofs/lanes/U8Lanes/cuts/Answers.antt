use Rattle.std.proofs.Common.{eqb, w8}
use Rattle.sgb_numbers.proofs.Vectors.{mask_is}
use Rattle.sgb_numbers.proofs.lanes.U8Lanes.cuts.Goals as goal

pub returns : goal.returns
returns c = mask_is w8 eqb c.args.slice.now c.args.at c.requires
