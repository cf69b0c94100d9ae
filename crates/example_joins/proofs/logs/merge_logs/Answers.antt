use Rattle.std.proofs.Common.{◌++◌, rules, sym, subst, map}
use Rattle.std.proofs.lemmas.Fn.{always_returns_same}
use Rattle.std.specs.List.Sorted.{IsPermutation}
use Rattle.std.specs.Ordering.{nat_cmp}
use Rattle.slice_group_by.specs.Search.{NeverDescends}
use Rattle.example_joins.proofs.logs.merge_logs.Goals as goal

pub returns : goal.returns
returns c =
    let yielded = rw c.into_iter-part-iterator.ensures.into_iter_gives at c.loop-part.yielded_by in
    let merge = c.sees_merge_by_keys.ensures.whole (λ p. p.time) (λ v. v.time) c.new-join.result _ _ _ _ c.new-join.ensures.sides
    c.requires.left c.requires.right (always_returns_same _ _ _ (λ a r f' k. search rules))
    (c.next.new.self, (_, yielded, c.in-None.ensures.steps)) in
    let all = sym c.loop-part.invariant in
    let laws = c.merges_interleave_by_keys.ensures in record {
      ascends = subst (λ l. NeverDescends nat_cmp (map (λ p. p.time) l)) all
          (laws.ascends (λ p. p.time) _ _ _ c.requires.left c.requires.right merge.merges);
      same = subst (IsPermutation (c.args.left.now ++ c.args.right.now)) all (laws.permutes _ _ _ _ merge.merges);
    }
