use Rattle.std.proofs.Common.{rules, nat_lt}
use Rattle.std.proofs.lemmas.Fn.{always_returns_same}
use Rattle.example_joins.proofs.sets.is_set.Goals as goal

pub returns : goal.returns
returns c said =
    c.sets_ascend.ensures.tested nat_lt (λ x y below. search rules) _ _
    (c.is_sorted_by.ensures.cases nat_lt (always_returns_same _ _ _ (λ a r f' k. search rules))) (search rules)
