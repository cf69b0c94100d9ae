use Rattle.std.proofs.Common.{eqb, w32}
use Rattle.sgb_numbers.proofs.Vectors.{mask_is}
use Rattle.sgb_numbers.proofs.lanes.U32Lanes.cuts.Goals as goal

pub returns : goal.returns
returns c = mask_is w32 eqb c.args.slice.now c.args.at c.requires
