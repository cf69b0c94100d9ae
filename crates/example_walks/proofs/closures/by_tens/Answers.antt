use Rattle.std.proofs.Common.{rules, ◌/◌}
use Rattle.std.proofs.lemmas.Fn.{always_returns_same}
use Rattle.example_walks.proofs.closures.by_tens.Goals as goal

pub returns : goal.returns
returns c =
    let settled = c.linear_group_by_key-groups.ensures.settled (λ x. x / 10) (always_returns_same _ _ _ (λ a r f' k. search rules)) in
    rw c.linear_group_by_key-groups.ensures.remainder at (c.walk.ensures.pieces _ settled)
