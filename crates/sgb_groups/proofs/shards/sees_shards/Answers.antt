use Rattle.std.proofs.Common.{length, arith, refl, ap, ◌∙◌}
use Rattle.std.specs.List.{fold}
use Rattle.sgb_groups.specs.Shards.{shards_left}
use Rattle.sgb_groups.proofs.ShardCuts.{are_shards, fold_over, shards_in, sum_over, yields_shards}
use Rattle.sgb_groups.proofs.shards.sees_shards.Goals as goal

pub returns-clause-shards : goal.returns-clause-shards
returns-clause-shards g c p s xs settled is = (
  shards_in p xs (length xs) (shards_left s),
  are_shards p xs (length xs) (shards_left s) (omega arith),
  record { runs = yields_shards g.W.Way g.J.Judge p xs (length xs) (shards_left s) s (omega arith) is refl settled },
)

pub returns-clause-sums : goal.returns-clause-sums
returns-clause-sums g c f adds p count xs shards h = sum_over f adds shards ∙ ap f h.covers

pub returns-clause-fold : goal.returns-clause-fold
returns-clause-fold g c op v p count xs shards h = fold_over p op v shards ∙ ap (fold op v) h.groups
