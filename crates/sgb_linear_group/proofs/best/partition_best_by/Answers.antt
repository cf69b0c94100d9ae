use Rattle.sgb_split.proofs.Questions.Closures.{predicate_settled}
use Rattle.sgb_linear_group.proofs.BestOf.{kept_are_best}
use Rattle.sgb_linear_group.proofs.best.partition_best_by.Goals as goal

pub returns-clause-best : goal.returns-clause-best
returns-clause-best g c p b computes worse =
    kept_are_best _ p _ g.B.FnMut b _ _ c.partition_best.ensures.kept (predicate_settled g.P.FnMut p _ _ computes) worse
