use Rattle.std.proofs.Common.{ap, arith}
use Rattle.sgb_split.specs.Split.{split}
use Rattle.sgb_split.specs.declared.end.End.TheVariants.{Front, Back}
use Rattle.slice_group_by.proofs.Queues.Chains.{piece_and_others, piece_accepted}
use Rattle.slice_group_by.proofs.Queues.GroupsToCome.{part_length}
use Rattle.slice_group_by.proofs.laws.calls.calls_take_pieces.Goals as goal

pub returns-clause-front : goal.returns-clause-front
returns-clause-front g c p q t group s h = (g.met.Q.GroupQueue.piece Front q group t p s h).0.0

pub returns-clause-back : goal.returns-clause-back
returns-clause-back g c p q t group s h = (g.met.Q.GroupQueue.piece Back q group t p s h).0.0

pub returns-clause-others : goal.returns-clause-others
returns-clause-others g c p e q t group s h = (g.met.Q.GroupQueue.piece e q group t p s h).0.1

pub returns-clause-whole : goal.returns-clause-whole
returns-clause-whole g c p e q t group s h = piece_and_others e p _ _ _ (g.met.Q.GroupQueue.piece e q _ t p s h).0

pub returns-clause-settled : goal.returns-clause-settled
returns-clause-settled g c p e q t group s h = (g.met.Q.GroupQueue.piece e q group t p s h).1

pub returns-clause-accepted : goal.returns-clause-accepted
returns-clause-accepted g c p e q t group s h = piece_accepted e p _ _ _ (g.met.Q.GroupQueue.piece e q _ t p s h).0

pub returns-clause-none : goal.returns-clause-none
returns-clause-none g c p e q t s = ap (split p) (g.met.Q.GroupQueue.part e q _ t s).0

pub returns-clause-shorter : goal.returns-clause-shorter
returns-clause-shorter g c e q t group s = omega (arith, part_length e _ _ _ (g.met.Q.GroupQueue.part e q _ t s))
