use Rattle.std.proofs.Common.{rules}
use Rattle.std.proofs.lemmas.Fn.{always_returns_same}
use Rattle.std.proofs.lemmas.Iterator.{YieldsList-from_slice, items_from_collect}
use Rattle.std.proofs.lemmas.Iterator.Consumers.{YieldsList-at, YieldsList-from_copied}
use Rattle.std.proofs.lemmas.Iterator.Adapters.{YieldsList-from_flat_map}
use Rattle.std.proofs.lemmas.Result.{IfOk-weaker}
use Rattle.slice_merge_join.specs.JoinKinds.{once}
use Rattle.example_joins.specs.declared.compaction.Entry.{Entry}
use Rattle.example_joins.proofs.compaction.newer_wins.Goals as goal

pub returns : goal.returns
returns c =
    let seen = c.sees_merge_by_keys.ensures.merge (λ (e : Entry). e.key) (λ (e : Entry). e.key) _ _ _ _ c.new-join.ensures.sides
    c.requires.newer c.requires.older (always_returns_same _ _ _ (λ a r f' k. search rules)) in
    let laws = c.once_keeps_left.ensures in
    let once_each = items_from_collect _ c.collect.ensures.ran
    (YieldsList-from_copied (YieldsList-at c.copied.ensures.source
    (YieldsList-from_flat_map _ _ _ (λ y. y.now) once _ (λ x u q k. (search rules, λ j b. YieldsList-from_slice _ (search rules)))
    (YieldsList-at c.flat_map.ensures.source seen.2) c.flat_map.ensures.closure c.flat_map.ensures.front c.flat_map.ensures.back
    c.flat_map.ensures.done))) in record {
      all = IfOk-weaker c.collect.result _ _ (λ v is. λ e. rw is (laws.members _ _ _ seen.0 seen.1.merges e)) once_each;
      same = IfOk-weaker c.collect.result _ _ (λ v is. rw is (laws.permutes _ _ _ seen.0 seen.1.merges)) once_each;
      run = λ h k. IfOk-weaker c.collect.result _ _
          (λ v is. rw is (laws.strictly (λ (e : Entry). e.key) _ _ seen.0 h k seen.1.merges)) once_each;
    }
