-- The best of each list, by an order: it is in its list, and none of the list is better.
use Rattle.std.proofs.Common.{◌≡◌, Bool, true, false, cond, List, [], ◌∷◌}
use Rattle.std.proofs.Common.{refl, sym, subst, inl, inr}
use Rattle.std.specs.Prelude.{◌⊎◌}
use Rattle.std.specs.List.{AllByRecursion, Contains, filter}
use Rattle.sgb_split.proofs.Lists.AllByRecursion.{all_contains, all_each}
use Rattle.sgb_split.proofs.Lists.Contained.{contains_cases, contains_head, contains_tail}
use Rattle.sgb_split.proofs.Lists.Filters.{filter_contains}
use Rattle.sgb_linear_group.specs.Best.{best_from, best_of_each}

module _ {T : Type 0} (worse : T → T → Bool) (asymmetric : (x y : T) → worse x y ≡ true → worse y x ≡ false)
    (transitive : (x y z : T) → worse x y ≡ false → worse y z ≡ false → worse x z ≡ false) where
  no_worse_itself : (x : T) → worse x x ≡ false
  no_worse_itself x = by (worse x x) refl
    where
      by : (b : Bool) → worse x x ≡ b → worse x x ≡ false
      by true e = asymmetric x x e
      by false e = e

  none_better : (x : T) (xs : List T) → AllByRecursion (λ y. worse (best_from worse x xs) y ≡ false) (x ∷ xs)
  none_better x [] = (no_worse_itself x, tt)
  none_better x (y ∷ ys) =
      let next = none_better (cond (worse x y) y x) ys in
      let k = both (worse x y) (best_from worse (cond (worse x y) y x) ys) refl next.0 in
      (k.0, (k.1, next.1))
    where
      both : (b : Bool) (best : T) → worse x y ≡ b → worse best (cond b y x) ≡ false → (worse best x ≡ false) × (worse best y ≡ false)
      both true best e h = (transitive best y x h (asymmetric x y e), h)
      both false best e h = (h, transitive best x y h e)

  is_of_list : (x : T) (xs : List T) → Contains (x ∷ xs) (best_from worse x xs)
  is_of_list x [] = contains_head x []
  is_of_list x (y ∷ ys) = by (worse x y) (is_of_list y ys) (is_of_list x ys)
    where
      or_later : {z : T} → (x ≡ z) ⊎ Contains ys z → Contains (x ∷ y ∷ ys) z
      or_later (inl same) = subst (λ z. Contains (x ∷ y ∷ ys) z) same (contains_head x (y ∷ ys))
      or_later (inr later) = contains_tail x (y ∷ ys) _ (contains_tail y ys _ later)

      by : (b : Bool) → Contains (y ∷ ys) (best_from worse y ys) → Contains (x ∷ ys) (best_from worse x ys)
          → Contains (x ∷ y ∷ ys) (best_from worse (cond b y x) ys)
      by true of_y of_x = contains_tail x (y ∷ ys) _ of_y
      by false of_y of_x = or_later (contains_cases x ys _ of_x)

  abbrev IsBestOf : List (List T) → T → Type 0
  IsBestOf groups best = (g : List T) × Contains groups g × Contains g best × AllByRecursion (λ y. worse best y ≡ false) g

  pub bests_of : (groups : List (List T)) → AllByRecursion (IsBestOf groups) (best_of_each worse groups)
  bests_of [] = tt
  bests_of ([] ∷ groups) = all_each _ _ (λ b h. (h.0, contains_tail [] groups _ h.1, h.2, h.3)) _ (bests_of groups)
  bests_of ((x ∷ xs) ∷ groups) = (
    (x ∷ xs, contains_head (x ∷ xs) groups, is_of_list x xs, none_better x xs),
    all_each _ _ (λ b h. (h.0, contains_tail (x ∷ xs) groups _ h.1, h.2, h.3)) _ (bests_of groups),
  )

  -- of lists that are filters of xs
  pub bests_among : (same : T → T → Bool) (xs : List T) (groups : List (List T))
      → ((g : List T) (x : T) → Contains groups g → Contains g x → g ≡ filter (λ y. same y x) xs)
      → AllByRecursion (λ best. Contains xs best × ((y : T) → Contains xs y → same y best ≡ true → worse best y ≡ false))
      (best_of_each worse groups)
  bests_among same xs groups filters =
      all_each _ _
      (λ best h.
      let is = filters h.0 best h.1 h.2 in (
        ((filter_contains (λ y. same y best) xs best).0 (subst (λ l. Contains l best) is h.2)).0,
        λ y at one. all_contains _ h.0 y h.3 (subst (λ l. Contains l y) (sym is) ((filter_contains (λ y. same y best) xs y).1 (at, one))),
      )) _ (bests_of groups)
