use Rattle.std.proofs.Common.{rules, nat_lt}
use Rattle.std.specs.Prelude.{⊤}
use Rattle.std.proofs.lemmas.Fn.{answers_by}
use Rattle.example_walks.proofs.closures.counted.Goals as goal

pub returns : goal.returns
returns c =
    let settled = c.linear_group_by-groups.ensures.settled nat_lt (answers_by _ _ (λ _. ⊤) (λ f a r f' k i. (search rules, tt)) _ tt) in
    rw c.linear_group_by-groups.ensures.remainder at (c.walk.ensures.pieces nat_lt settled)
