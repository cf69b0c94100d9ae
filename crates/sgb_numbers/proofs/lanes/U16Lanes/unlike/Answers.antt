use Rattle.std.proofs.Common.{eqb, w16}
use Rattle.sgb_numbers.proofs.Vectors.{unlike_is}
use Rattle.sgb_numbers.proofs.lanes.U16Lanes.unlike.Goals as goal

pub returns : goal.returns
returns c = unlike_is w16 eqb c.args.slice.now c.args.at c.args.number.now c.requires
