use Rattle.std.proofs.Common.{rules, subst, sym, ap, ◌∙◌, ◌↔◌, ◌⊎◌, ℕ, ◌+◌, List, length}
use Rattle.std.specs.List.{Contains, filter}
use Rattle.std.specs.Ordering.{nat_cmp}
use Rattle.std.proofs.lemmas.Fn.{always_returns_same}
use Rattle.std.proofs.lemmas.Iterator.{YieldsList-from_slice, items_from_collect}
use Rattle.std.proofs.lemmas.Iterator.Consumers.{YieldsList-at, YieldsList-from_copied}
use Rattle.std.proofs.lemmas.Iterator.Adapters.{YieldsList-from_flat_map}
use Rattle.std.proofs.lemmas.Map.Lookups.{exact_unsigned}
use Rattle.std.proofs.lemmas.Result.{IfOk-weaker}
use Rattle.slice_group_by.specs.Search.{AlwaysAscends}
use Rattle.slice_merge_join.specs.JoinKinds.{once}
use Rattle.slice_group_by.specs.Matches.{has_partner}
use Rattle.example_joins.proofs.sets.union.Goals as goal

pub returns : goal.returns
returns c =
    let law = c.sets_ascend.ensures in
    let seen = c.sees_merge_in_order.ensures.merge _ _ _ _ c.new-join.ensures.sides (law.never _ c.requires.left)
    (law.never _ c.requires.right) (always_returns_same _ _ _ (λ a r f' k. search rules)) in
    let items = items_from_collect _ c.collect.ensures.ran (YieldsList-from_copied (YieldsList-at c.copied.ensures.source
    (YieldsList-from_flat_map _ _ _ (λ y. y.now) once _ (λ x u q k. (search rules, λ j b. YieldsList-from_slice _ (search rules)))
    (YieldsList-at c.flat_map.ensures.source seen.2) c.flat_map.ensures.closure c.flat_map.ensures.front c.flat_map.ensures.back
    c.flat_map.ensures.done))) in record {
      ascends = IfOk-weaker c.collect.result _ _
          (λ v e. subst (AlwaysAscends nat_cmp) (sym e) (law.strictly _ _ seen.0 c.requires.left c.requires.right seen.1.merges)) items;
      all = IfOk-weaker c.collect.result _ _ (λ v e x.
          subst (λ l. Contains l x ↔ (Contains c.args.left.now x ⊎ Contains c.args.right.now x)) (sym e)
          (law.all exact_unsigned _ _ seen.0 seen.1.merges x)) items;
      size = IfOk-weaker c.collect.result _ _
          (λ v e. ap (λ (l : List ℕ). length l + length (filter (has_partner nat_cmp c.args.left.now) c.args.right.now)) e
          ∙ law.size _ _ seen.0 seen.1.merges) items;
    }
