use Rattle.sgb_split.proofs.Questions.Closures.{key_settled}
use Rattle.sgb_linear_group.proofs.BestOf.{kept_are_best}
use Rattle.sgb_linear_group.proofs.best.partition_best_by_key.Goals as goal

pub partition_best-requires-clause-callable : goal.partition_best-requires-clause-callable
partition_best-requires-clause-callable g c = rw (c.new.ensures) c.requires.callable

pub returns-clause-kept : goal.returns-clause-kept
returns-clause-kept g c = rw (c.new.ensures) at c.partition_best.ensures.kept

pub returns-clause-best : goal.returns-clause-best
returns-clause-best g c key b computes worse =
    kept_are_best _ _ _ g.B.FnMut b _ _ (rw (c.new.ensures) at c.partition_best.ensures.kept)
    (key_settled g.F.FnMut g.K.PartialEq.eq key _ _ computes) worse
