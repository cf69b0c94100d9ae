use Rattle.std.proofs.Common.{refl}
use Rattle.slice_group_stream.proofs.parts.PartsIterator.next.Goals as goal

pub returns-clause-steps : goal.returns-clause-steps
returns-clause-steps g c = (c.in_ok-part.ensures.steps, (refl, refl))
