-- What calls at one end give of groups with their keys.
use Rattle.std.proofs.Common.{◌≡◌, ◌≢◌, Bool, List, [], ◌∷◌, Option, None, Some, refl, sym, ap, ◌∙◌, subst}
use Rattle.std.specs.Prelude.{option_map, slice_get}
use Rattle.std.specs.Iterator.{AlwaysYields}
use Rattle.std.specs.List.{AllByRecursion}
use Rattle.sgb_split.specs.declared.end.End.{End}
use Rattle.sgb_split.specs.Split.{from, split, TakesPiece}
use Rattle.sgb_split.proofs.Lists.Ends.{from-from, all_from}
use Rattle.sgb_split.proofs.Splits.Split.{split_is}
use Rattle.slice_group_by.specs.Keyed.{keyed, GivesWithKey}
use Rattle.slice_group_by.specs.declared.adapters.keyed.WithKeys.{WithKeys}
use Rattle.slice_group_by.proofs.Queues.Yields.{yields_pieces, same_some}

-- the members of `Keyed`, and a key that the key function computes
module _ {Q I A K : Type 0} (gives : End → Q → Option I → Q → Type 0) (remainder : Q → List A) (shows : I → List A)
    (calls : Q → I → K → Q → Type 0) (is_keyed : Q → (A → K) → Type 0) (same : K → K → Bool)
    (pop : (e : End) (q : Q) (o : Option I) (t : Q) (key : A → K) → gives e q o t → is_keyed q key
    → TakesPiece (λ x y. same (key x) (key y)) e (remainder q) (option_map shows o) (remainder t) × is_keyed t key)
    (call : (q : Q) (group : I) (k : K) (t : Q) (key : A → K) → calls q group k t → is_keyed q key
    → ((x : A) × (slice_get (shows group) 0 ≡ Some x) × (k ≡ key x)) × is_keyed t key)
    (leaves : (q : Q) (group : I) (k : K) (t : Q) → calls q group k t → remainder t ≡ remainder q) (key : A → K) where
  abbrev by_keys : A → A → Bool
  by_keys x y = same (key x) (key y)

  -- calls find the pieces by this test
  abbrev finds : WithKeys Q → (A → A → Bool) → Type 0
  finds s p = is_keyed s.groups key × (p ≡ by_keys)

  abbrev steps : End → WithKeys Q → Option (K × I) → WithKeys Q → Type 0
  steps = GivesWithKey gives calls

  piece : (e : End) (s : WithKeys Q) (o : Option (K × I)) (t : WithKeys Q) (p : A → A → Bool) → steps e s o t → finds s p
      → TakesPiece p e (remainder s.groups) (option_map (λ x. shows x.1) o) (remainder t.groups) × finds t p
  piece e s None t p g h =
      let popped = pop e s.groups None t.groups key g h.0 in
      (subst (λ u. TakesPiece u e (remainder s.groups) None (remainder t.groups)) (sym h.1) popped.0, (popped.1, h.1))
  piece e s (Some x) t p g h =
      let popped = pop e s.groups (Some x.1) g.0 key g.1 h.0 in (
        subst (λ u. TakesPiece u e (remainder s.groups) (Some (shows x.1)) (remainder t.groups)) (sym h.1)
            (subst (TakesPiece by_keys e (remainder s.groups) (Some (shows x.1))) (sym (leaves g.0 x.1 x.0 t.groups g.2)) popped.0),
        ((call g.0 x.1 x.0 t.groups key g.2 popped.1).1, h.1),
      )

  -- what always yields pieces yields each with its key
  with_key : (e : End) (s : WithKeys Q) (ps : List (List A)) → is_keyed s.groups key → AllByRecursion (λ g. g ≢ []) ps
      → AlwaysYields (steps e) (λ x. shows x.1) s ps → AlwaysYields (steps e) (λ x. (x.0, shows x.1)) s (keyed key ps)
  with_key e s [] h some yields = yields
  with_key e s ([] ∷ ps) h some yields = absurd (some.0 refl)
  with_key e s ((y ∷ ys) ∷ ps) h some yields = (
    yields.0,
    λ x j g.
        let next = yields.1 x j g in
        let called = call g.0 x.1 x.0 j.groups key g.2 (pop e s.groups (Some x.1) g.0 key g.1 h).1 in
        let same = same_some (sym called.0.1 ∙ ap (λ l. slice_get l 0) next.0) in
        let is_key = called.0.2 ∙ ap key same in
        ((λ i. (is_key i, next.0 i)), with_key e j ps called.1 some.1 next.1),
  )

  pub yields_keys : (e : End) (s : WithKeys Q) → is_keyed s.groups key
      → AlwaysYields (steps e) (λ x. (x.0, shows x.1)) s (keyed key (from e (split by_keys (remainder s.groups))))
  yields_keys e s h =
      let pieces = split by_keys (remainder s.groups) in
      with_key e s (from e pieces) h (all_from _ e pieces (split_is by_keys (remainder s.groups)).nonempty)
      (yields_pieces _ (λ t. remainder t.groups) _ finds by_keys piece e s (from e pieces) (h, refl) (sym (from-from e pieces)))
