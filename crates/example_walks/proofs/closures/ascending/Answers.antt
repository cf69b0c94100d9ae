use Rattle.std.proofs.Common.{rules, nat_lt}
use Rattle.std.proofs.lemmas.Fn.{always_returns_same}
use Rattle.example_walks.proofs.closures.ascending.Goals as goal

pub returns : goal.returns
returns c =
    let settled = c.linear_group_by-groups.ensures.settled nat_lt (always_returns_same _ _ _ (λ a r f' k. search rules)) in
    rw c.linear_group_by-groups.ensures.remainder at (c.walk.ensures.pieces nat_lt settled)
