-- A total order of keys, and the equality that agrees with it.
use Rattle.std.specs.Prelude.{◌≡◌, Bool, true}
use Rattle.std.proofs.Common.{refl, sym, ap, ◌∙◌}
use Rattle.std.specs.Cmp.{IsTotalOrder, Equal-is}
use Rattle.std.specs.Ordering.{is_eq, ordering_reverse, flip_args}
use Rattle.std.specs.declared.cmp.Ordering.{Ordering}
use Rattle.std.specs.declared.cmp.Ordering.TheVariants.{Less, Equal, Greater}

module _ {K : Type 0} (cmp : K → K → Ordering) where
  pub turned_around : (o : IsTotalOrder cmp) (x y : K) (r : Ordering) → cmp x y ≡ r → cmp y x ≡ ordering_reverse r
  turned_around o x y r e = o.antisymm y x ∙ ap ordering_reverse e

  module _ (eq : K → K → Bool) (ties : (x y : K) → eq x y ≡ is_eq (cmp x y)) where
    pub tied_if_equal : (x y : K) → eq x y ≡ true → cmp x y ≡ Equal
    tied_if_equal x y e = (Equal-is (cmp x y)).0 (sym (ties x y) ∙ e)

    pub equal_if_tied : (x y : K) → cmp x y ≡ Equal → eq x y ≡ true
    equal_if_tied x y e = ties x y ∙ ap is_eq e

    -- and they agree with the order turned around
    pub ties_back : IsTotalOrder cmp → (x y : K) → eq x y ≡ is_eq (flip_args cmp x y)
    ties_back o x y = ties x y ∙ ap is_eq (o.antisymm x y) ∙ either (cmp y x)
      where
        either : (r : Ordering) → is_eq (ordering_reverse r) ≡ is_eq r
        either Less = refl
        either Equal = refl
        either Greater = refl
