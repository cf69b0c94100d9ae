-- A list that ascends is grouped for equality.
use Rattle.std.specs.Prelude.{◌≡◌, ◌≢◌, ◌-◌, Bool, true, false, List, [], ◌∷◌, ◌++◌, length, map, Some, slice_get}
use Rattle.std.proofs.Common.{refl, sym, ap, ◌∙◌, arith, subst}
use Rattle.std.proofs.lemmas.List.{map-id}
use Rattle.std.specs.List.{AllByRecursion}
use Rattle.std.specs.Cmp.{IsTotalOrder, upto, tied_itself}
use Rattle.std.specs.Ordering.{is_eq, is_gt, ordering_reverse}
use Rattle.std.specs.declared.cmp.Ordering.{Ordering}
use Rattle.std.specs.declared.cmp.Ordering.TheVariants.{Less, Equal, Greater}
use Rattle.sgb_split.specs.Split.{neighbours, IsAccepted, IsGrouped}
use Rattle.sgb_search.specs.Search.{NeverDescends}
use Rattle.sgb_split.proofs.Lists.Order.{turned_around, tied_if_equal, equal_if_tied}
use Rattle.sgb_split.proofs.Lists.AllByRecursion.{all_of_first, all_of_rest}
use Rattle.sgb_split.proofs.Lists.Pairs.{neighbours-append}
use Rattle.sgb_split.proofs.Splits.Grouped.{AgreesIn, grouped_of_parts}

-- what holds of each two elements side by side: of a part of the list, and by keys
module _ {K : Type 0} (P : K → K → Type 0) where
  abbrev Along : List K → Type 0
  Along xs = AllByRecursion (λ q. P q.0 q.1) (neighbours xs)

  pub along_part : (before mid after : List K) → Along (before ++ (mid ++ after)) → Along mid
  along_part before mid after h =
      let one = rw (neighbours-append before (mid ++ after)) at h in
      let two = all_of_rest _ _ (neighbours (mid ++ after)) (all_of_rest _ (neighbours before) _ one) in
      all_of_first _ (neighbours mid) _ (rw (neighbours-append mid after) at two)

  pub along_keys : {T : Type 0} (key : T → K) (xs : List T) → Along (map key xs) → AllByRecursion (λ q. P (key q.0) (key q.1)) (neighbours xs)
  along_keys key [] h = tt
  along_keys key (x ∷ []) h = tt
  along_keys key (x ∷ y ∷ ys) h = (h.0, along_keys key (y ∷ ys) h.1)

pub not_greater : (r : Ordering) → r ≢ Greater → is_gt r ≡ false
not_greater Less h = refl
not_greater Equal h = refl
not_greater Greater h = absurd (h refl)

level : (r : Ordering) → is_gt r ≡ false → is_gt (ordering_reverse r) ≡ false → r ≡ Equal
level Less h k = cc k
level Equal h k = refl
level Greater h k = cc h

module _ {K : Type 0} (cmp : K → K → Ordering) (o : IsTotalOrder cmp) (eq : K → K → Bool)
    (ties : (x y : K) → eq x y ≡ is_eq (cmp x y)) where
  -- z lies between x and y, which are equal
  ties_between : (x y z : K) → cmp x y ≡ Equal → is_gt (cmp x z) ≡ false → is_gt (cmp z y) ≡ false → cmp z y ≡ Equal
  ties_between x y z e p q = level (cmp z y) q (ap is_gt (sym (o.antisymm y z) ∙ sym (o.congr x y z e)) ∙ p)

  module _ {T : Type 0} (key : T → K) where
    abbrev equal_keys : T → T → Bool
    equal_keys a b = eq (key a) (key b)

    abbrev Ascends : List T → Type 0
    Ascends xs = AllByRecursion (λ q. cmp (key q.0) (key q.1) ≢ Greater) (neighbours xs)

    -- the last is the greatest
    first_upto : (x : T) (xs : List T) (y : T) → Ascends (x ∷ xs) → slice_get (x ∷ xs) (length xs) ≡ Some y → is_gt (cmp (key x) (key y))
        ≡ false
    first_upto x [] y h e =
        let same : x ≡ y = cc e in ap (λ (z : T). is_gt (cmp (key x) (key z))) (sym same) ∙ ap is_gt (tied_itself o (key x))
    first_upto x (z ∷ zs) y h e = upto o (key x) (key z) (key y) (not_greater _ h.0) (first_upto z zs y h.1 e)

    accepted : (x : T) (xs : List T) (y : T) → Ascends (x ∷ xs) → slice_get (x ∷ xs) (length xs) ≡ Some y → equal_keys x y ≡ true
        → IsAccepted equal_keys (x ∷ xs)
    accepted x [] y h e t = tt
    accepted x (z ∷ zs) y h e t =
        let b = ties_between (key x) (key y) (key z) (tied_if_equal cmp eq ties (key x) (key y) t) (not_greater _ h.0)
        (first_upto z zs y h.1 e) in (
          equal_if_tied cmp eq ties (key x) (key z)
              (o.congr (key x) (key y) (key z) (tied_if_equal cmp eq ties (key x) (key y) t) ∙ turned_around cmp o (key z) (key y) Equal b),
          accepted z zs y h.1 e (equal_if_tied cmp eq ties (key z) (key y) b),
        )

    agree : (x : T) (xs : List T) (y : T) → slice_get (x ∷ xs) (length xs) ≡ Some y → IsAccepted equal_keys (x ∷ xs) → equal_keys x y ≡ true
    agree x [] y e h =
        let same : x ≡ y = cc e in ap (λ (z : T). equal_keys x z) (sym same) ∙ equal_if_tied cmp eq ties (key x) (key x)
        (tied_itself o (key x))
    agree x (z ∷ zs) y e h =
        equal_if_tied cmp eq ties (key x) (key y)
        (o.congr (key x) (key z) (key y) (tied_if_equal cmp eq ties (key x) (key z) h.0) ∙ tied_if_equal cmp eq ties (key z) (key y)
        (agree z zs y e h.1))

    either : (x y : T) → equal_keys x y ≡ true → equal_keys y x ≡ true
    either x y e =
        equal_if_tied cmp eq ties (key y) (key x) (turned_around cmp o (key x) (key y) Equal (tied_if_equal cmp eq ties (key x) (key y) e))

    in_part : (mid : List T) → Ascends mid → AgreesIn equal_keys mid
    in_part [] h x y l ex ey = absurd (omega arith)
    in_part (z ∷ zs) h x y l ex ey =
        let same : z ≡ x = cc ex in
        let at_last : slice_get (z ∷ zs) (length zs) ≡ Some y = ap (slice_get (z ∷ zs)) {x = length zs} {y = length (z ∷ zs) - 1}
        (omega arith) ∙ ey in
        let turn : (a : T) → z ≡ a →
        ((equal_keys a y ≡ true → IsAccepted equal_keys (z ∷ zs)) × (IsAccepted equal_keys (z ∷ zs) → equal_keys a y ≡ true)) = λ a e. (
          λ t. accepted z zs y h at_last (ap (λ (b : T). equal_keys b y) e ∙ t),
          λ k. ap (λ (b : T). equal_keys b y) (sym e)
              ∙ agree z zs y at_last k,
        ) in
        (turn x same, (λ t. (turn x same).0 (either y x t), λ k. either x y ((turn x same).1 k)))

    pub ascending_grouped : (xs : List T) → NeverDescends cmp (map key xs) → IsGrouped equal_keys xs
    ascending_grouped xs h =
        grouped_of_parts equal_keys xs
        (λ before mid after e. in_part mid (along_part (λ x y. cmp (key x) (key y) ≢ Greater) before mid after
        (subst Ascends e (along_keys (λ x y. cmp x y ≢ Greater) key xs h))))

  pub sorted_grouped : (xs : List K) → NeverDescends cmp xs → IsGrouped eq xs
  sorted_grouped xs h = ascending_grouped (λ x. x) xs (subst (NeverDescends cmp) (sym (map-id xs)) h)
