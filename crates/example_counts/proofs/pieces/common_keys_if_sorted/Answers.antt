use Rattle.std.proofs.Common.{rules}
use Rattle.std.proofs.lemmas.Fn.{always_returns_same}
use Rattle.example_counts.specs.Keys.{key}
use Rattle.example_counts.proofs.pieces.common_keys_if_sorted.Goals as goal

pub count_common_keys-requires-clause-left : goal.count_common_keys-requires-clause-left
count_common_keys-requires-clause-left c =
    c.sorts_ascend.ensures.said_by_key key c.args.left.now _
    (c.is_sorted_by_key.ensures.cases key (always_returns_same _ _ _ (λ a r h k. search rules)))
    (search (rules, c.if-not-is_sorted_by_key))

pub count_common_keys-requires-clause-right : goal.count_common_keys-requires-clause-right
count_common_keys-requires-clause-right c =
    c.sorts_ascend.ensures.said_by_key key c.args.right.now _
    (c.is_sorted_by_key-2.ensures.cases key (always_returns_same _ _ _ (λ a r h k. search rules)))
    (search (rules, c.if-not-is_sorted_by_key-2))

pub returns-then-not-is_sorted_by_key-clause-sorted : goal.returns-then-not-is_sorted_by_key-clause-sorted
returns-then-not-is_sorted_by_key-clause-sorted c left right =
    let yes = c.sorts_ascend.ensures.only_by_key key c.args.left.now _
    (c.is_sorted_by_key.ensures.cases key (always_returns_same _ _ _ (λ a r h k. search rules))) left in
    search (rules, yes)

pub returns-then-not-is_sorted_by_key-2-clause-sorted : goal.returns-then-not-is_sorted_by_key-2-clause-sorted
returns-then-not-is_sorted_by_key-2-clause-sorted c left right =
    let yes = c.sorts_ascend.ensures.only_by_key key c.args.right.now _
    (c.is_sorted_by_key-2.ensures.cases key (always_returns_same _ _ _ (λ a r h k. search rules))) right in
    search (rules, yes)
