use Rattle.std.specs.Prelude.{◌≡◌, ℕ, List, [], ◌∷◌}
use Rattle.std.proofs.Common.{refl}
use Rattle.std.specs.List.{AllByRecursion}
use Rattle.std.specs.Ordering.{nat_cmp}
use Rattle.std.specs.declared.cmp.Ordering.{Ordering}
use Rattle.std.specs.declared.cmp.Ordering.TheVariants.{Less, Equal, Greater}
use Rattle.sgb_split.proofs.Lists.AllByRecursion.{all_contains}
use Rattle.slice_merge_join.specs.Merge.{AllStand}
use Rattle.sgb_split.proofs.Lists.Contained.{contains_head}
use Rattle.test_cases.proofs.definitions.merge_cases.Goals as goal

stands : (ord : ℕ → ℕ → Ordering) (o : Ordering) (xs ys : List ℕ)
    → AllByRecursion (λ x. AllByRecursion (λ y. ord x y ≡ o) ys) xs → AllStand ord o xs ys
stands ord o xs ys h x y a b = all_contains _ ys y (all_contains (λ x. AllByRecursion (λ y. ord x y ≡ o) ys) xs x h a) b

pub returns-clause-parts : goal.returns-clause-parts
returns-clause-parts c = record {
  merges = record {
    covers_left = refl;
    covers_right = refl;
    nonempty = (λ e. cc e, (λ e. cc e, ((λ e. cc e, λ e. cc e), tt)));
    equal = (
      stands nat_cmp Equal (1 ∷ []) [] (tt, tt),
      (stands nat_cmp Equal [] (2 ∷ []) tt, (stands nat_cmp Equal (3 ∷ []) (3 ∷ 3 ∷ []) ((refl, (refl, tt)), tt), tt)),
    );
    climbs = (
      (
        (stands nat_cmp Less (1 ∷ []) (2 ∷ []) ((refl, tt), tt), stands nat_cmp Greater [] [] tt),
        ((stands nat_cmp Less (1 ∷ []) (3 ∷ 3 ∷ []) ((refl, (refl, tt)), tt), stands nat_cmp Greater (3 ∷ []) [] (tt, tt)), tt),
      ),
      (((stands nat_cmp Less [] (3 ∷ 3 ∷ []) tt, stands nat_cmp Greater (3 ∷ []) (2 ∷ []) ((refl, tt), tt)), tt), (tt, tt)),
    );
  };
  longest = (tt, (tt, tt));
}

pub returns-clause-turned : goal.returns-clause-turned
returns-clause-turned c m = let greater = m.merges.climbs.0.0.1 1 2 (contains_head 1 []) (contains_head 2 []) in cc greater
