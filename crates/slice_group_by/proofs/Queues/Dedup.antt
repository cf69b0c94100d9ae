-- What calls at one end give of the lengths and first elements of groups.
use Rattle.std.proofs.Common.{◌≡◌, ◌≢◌, Bool, List, [], ◌∷◌, length, Option, refl, sym, ap, ◌∙◌, subst}
use Rattle.std.specs.Prelude.{option_map, slice_get}
use Rattle.std.specs.Borrow.{Bor}
use Rattle.std.specs.Iterator.{AlwaysYields}
use Rattle.std.specs.List.{AllByRecursion}
use Rattle.sgb_split.specs.declared.end.End.{End}
use Rattle.sgb_split.specs.Split.{from, split, TakesPiece}
use Rattle.sgb_split.proofs.Lists.Ends.{from-from, all_from}
use Rattle.sgb_split.proofs.Splits.Split.{split_is}
use Rattle.slice_group_by.specs.Dedup.{counted, GivesCounted}
use Rattle.slice_group_by.specs.declared.adapters.dedup.DedupWithCount.{DedupWithCount}
use Rattle.slice_group_by.proofs.Queues.Yields.{yields_pieces, same_some}

module _ {T Q : Type 0} (gives : End → Q → Option (Bor (List T)) → Q → Type 0) where
  -- what always yields parts yields the length and the first element of each
  pub yields_counts : (e : End) (s : DedupWithCount T Q) (ps : List (List T)) → AllByRecursion (λ g. g ≢ []) ps
      → AlwaysYields (gives e) (λ group. group.now) s.groups ps
      → AlwaysYields (GivesCounted gives e) (λ x. (x.0, x.1.now)) s (counted ps)
  yields_counts e s [] some yields = λ x t g. yields g.0 t.groups g.1
  yields_counts e s ([] ∷ ps) some yields = absurd (some.0 refl)
  yields_counts e s ((y ∷ ys) ∷ ps) some yields = (
    λ t g. yields.0 t.groups g,
    λ x t g.
        let next = yields.1 g.0 t.groups g.1 in
        let first = same_some (sym g.3 ∙ ap (λ l. slice_get l 0) next.0) in
        let len = g.2 ∙ ap length next.0 in
        ((λ i. (len i, first i)), yields_counts e t ps some.1 next.1),
  )

  -- of a settled queue whose groups show what they hold
  module _ (remainder : Q → List T) (shows : Bor (List T) → List T) (now : (group : Bor (List T)) → shows group ≡ group.now)
      (settled : Q → (T → T → Bool) → Type 0) (p : T → T → Bool)
      (piece : (e : End) (q : Q) (o : Option (Bor (List T))) (t : Q) (p : T → T → Bool) → gives e q o t → settled q p
      → TakesPiece p e (remainder q) (option_map shows o) (remainder t) × settled t p) where
    pub yields_counted : (e : End) (s : DedupWithCount T Q) → settled s.groups p
        → AlwaysYields (GivesCounted gives e) (λ x. (x.0, x.1.now)) s (counted (from e (split p (remainder s.groups))))
    yields_counted e s h =
        let pieces = split p (remainder s.groups) in
        yields_counts e s (from e pieces) (all_from _ e pieces (split_is p (remainder s.groups)).nonempty)
        (subst (λ v. AlwaysYields (gives e) v s.groups (from e pieces)) (λ i group. now group i)
        (yields_pieces gives remainder shows settled p piece e s.groups (from e pieces) h (sym (from-from e pieces))))
