use Rattle.std.proofs.Common.{arith}
use Rattle.program_parts.proofs.NamesFound.{found_none, found_one}
use Rattle.program_parts.proofs.columns.place_of_name.Goals as goal

pub returns-clause-found : goal.returns-clause-found
returns-clause-found c = found_one _ _ c.loop-i.i c.loop-i.found (omega arith) c.loop-i.invariant

pub returns-clause-nowhere : goal.returns-clause-nowhere
returns-clause-nowhere c is = found_none _ _ c.loop-i.i c.loop-i.found (omega arith) c.loop-i.invariant is
