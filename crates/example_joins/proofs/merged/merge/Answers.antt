use Rattle.std.proofs.Common.{sym, ap, ◌∙◌, ◌≡◌, ◌++◌, List, flat_map, subst}
use Rattle.std.proofs.lemmas.List.{take_all, map-id}
use Rattle.std.proofs.lemmas.List.Folds.{flat_map-map}
use Rattle.std.specs.List.Sorted.{IsPermutation}
use Rattle.slice_merge_join.specs.declared.EitherOrBoth.{EitherOrBoth}
use Rattle.slice_merge_join.specs.Merge.{lefts, rights, IsMerge}
use Rattle.slice_group_by.specs.Search.{NeverDescends}
use Rattle.example_joins.specs.Names.{shown_groups}
use Rattle.example_joins.proofs.merged.merge.Given as given
use Rattle.example_joins.proofs.merged.merge.Goals as goal

-- all elements of the parts of a merge
all : (g : given.Over) (c : goal.After-drop-sides-2 g) → (ps : List (EitherOrBoth (List g.row.T.Denot) (List g.row.T.Denot)))
    × IsMerge g.T.Ord.cmp c.args.left.now c.args.right.now ps
    × (flat_map (λ p. lefts p ++ rights p) ps ≡ c.loop-part.merged.items)
all g c =
    let m = c.one_merge.ensures.sorted g.T.Ord.cmp c.args.left.now c.args.right.now
    (c.one_merge.ensures.keys (λ x. x) (λ y. y) c.args.left.now c.args.right.now (rw map-id c.requires.left)
    (rw map-id c.requires.right)) in
    let items = c.in_ok-sides.sides.items in
    let seen = take_all c.loop-part.part-index c.deref-part-items.result.now c.loop-part-test.false ∙ c.deref-part-items.ensures.value in (
      m.0,
      m.1,
      sym (flat_map-map (λ q. q.0 ++ q.1) (λ p. (lefts p, rights p)) m.0)
          ∙ ap (flat_map (λ q. q.0 ++ q.1)) (sym (c.in_ok-sides.ensures m.0 m.1))
          ∙ flat_map-map (λ q. q.0 ++ q.1) shown_groups items
          ∙ sym (c.loop-part.invariant ∙ ap (flat_map (λ q. q.0.now ++ q.1.now)) seen),
    )

pub returns-clause-parts : goal.returns-clause-parts
returns-clause-parts g c =
    let k = all g c in (k.0, k.1, sym k.2)

pub returns-clause-ascends : goal.returns-clause-ascends
returns-clause-ascends g c =
    let k = all g c in
    subst (NeverDescends g.T.Ord.cmp) k.2 (c.merges_interleave.ensures.ascends _ _ k.0 c.requires.left c.requires.right k.1.merges)

pub returns-clause-same : goal.returns-clause-same
returns-clause-same g c =
    let k = all g c in
    subst (IsPermutation (c.args.left.now ++ c.args.right.now)) k.2 (c.merges_interleave.ensures.permutes g.T.Ord.cmp _ _ k.0 k.1.merges)
