use Rattle.std.proofs.Common.{eqb, w8}
use Rattle.sgb_numbers.proofs.Vectors.{unlike_is}
use Rattle.sgb_numbers.proofs.lanes.U8Lanes.unlike.Goals as goal

pub returns : goal.returns
returns c = unlike_is w8 eqb c.args.slice.now c.args.at c.args.number.now c.requires
