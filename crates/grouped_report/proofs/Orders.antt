-- Fields, as their vectors hold them, and how they compare.
use Rattle.std.proofs.Common.{◌≡◌, ℕ, Bool, true, false, List, [], ◌∷◌, ◌&&◌, map, Vec, Global, nat_eq, sym, ap, ◌∙◌, refl}
use Rattle.std.specs.Cmp.{IsTotalOrder, IsEquivalence}
use Rattle.std.specs.Cmp.Derive.Mapped.{lex_map, pointwise-map}
use Rattle.std.specs.Cmp.Lexicographic.{lists_equiv, lists_ties, lists_total, nat_list_cmp_total, nat_list_eq_equiv, pointwise, same_text}
use Rattle.std.specs.Cmp.Lexicographic.{slice_cmp, texts_ties}
use Rattle.std.specs.Ordering.{eq_by_cmp, is_eq, is_lt, nat_cmp, ordering_reverse}
use Rattle.std.specs.declared.cmp.Ordering.{Ordering}
use Rattle.std.specs.declared.cmp.Ordering.TheVariants.{Less, Equal, Greater}
use Rattle.grouped_report.specs.Groups.{group_cmp, same_fields}

pub same_texts : (xs ys : List (Vec ℕ Global)) (r : Bool) → r ≡ pointwise (λ a b. pointwise nat_eq a.items b.items) xs ys
    → r ≡ same_fields (map (λ f. f.items) xs) (map (λ f. f.items) ys)
same_texts xs ys r is = is ∙ sym (pointwise-map (λ (f : Vec ℕ Global). f.items) (pointwise nat_eq) xs ys)

pub texts_cmp : (xs ys : List (Vec ℕ Global)) (r : Ordering) → r ≡ slice_cmp (λ a b. slice_cmp nat_cmp a.items b.items) xs ys
    → r ≡ group_cmp (map (λ f. f.items) xs) (map (λ f. f.items) ys)
texts_cmp xs ys r is = is ∙ sym (lex_map (λ (f : Vec ℕ Global). f.items) (slice_cmp nat_cmp) xs ys)

pub fields_equiv : IsEquivalence same_fields
fields_equiv = lists_equiv nat_list_eq_equiv

pub fields_total : IsTotalOrder group_cmp
fields_total = lists_total nat_list_cmp_total

-- fields that are the same for the test are the same
pub fields_same : (a b : List (List ℕ)) → same_fields a b ≡ true → a ≡ b
fields_same [] [] e = refl
fields_same [] (y ∷ ys) e = cc
fields_same (x ∷ xs) [] e = cc
fields_same (x ∷ xs) (y ∷ ys) e = by (pointwise nat_eq x y) refl e (fields_same xs ys)
  where
    by : (t : Bool) → pointwise nat_eq x y ≡ t → (t && same_fields xs ys) ≡ true → (same_fields xs ys ≡ true → xs ≡ ys) → x ∷ xs ≡ y ∷ ys
    by true one all same = (λ i. same_text x y (sym one) i ∷ same all i)
    by false one all same = cc

pub fields_tie : (a b : List (List ℕ)) → same_fields a b ≡ eq_by_cmp group_cmp a b
fields_tie = lists_ties (slice_cmp nat_cmp) texts_ties

-- what compares as equal is the same, and so the other way round
pub cmp_same : (a b : List (List ℕ)) → group_cmp a b ≡ Equal → a ≡ b
cmp_same a b e = fields_same a b (fields_tie a b ∙ ap is_eq e)

pub cmp_itself : (a : List (List ℕ)) → group_cmp a a ≡ Equal
cmp_itself a = by (group_cmp a a) refl
  where
    by : (o : Ordering) → group_cmp a a ≡ o → o ≡ Equal
    by Less e = let r : Less ≡ ordering_reverse Less = sym e ∙ fields_total.antisymm a a ∙ ap ordering_reverse e in cc
    by Equal e = refl
    by Greater e = let r : Greater ≡ ordering_reverse Greater = sym e ∙ fields_total.antisymm a a ∙ ap ordering_reverse e in cc

pub less_differs : (a b : List (List ℕ)) → group_cmp a b ≡ Less → same_fields a b ≡ false
less_differs a b e = fields_tie a b ∙ ap is_eq e

pub less_not_back : (a b : List (List ℕ)) → group_cmp a b ≡ Less → is_lt (group_cmp b a) ≡ false
less_not_back a b e = ap is_lt (fields_total.antisymm b a ∙ ap ordering_reverse e)

pub same_not_back : (a b k : List (List ℕ)) → a ≡ k → b ≡ k → is_lt (group_cmp b a) ≡ false
same_not_back a b k x y = ap is_lt (ap (group_cmp b) (x ∙ sym y) ∙ cmp_itself b)

-- two that differ, and of which the second is not below the first
pub less_from : (a b : List (List ℕ)) → same_fields a b ≡ false → is_lt (group_cmp b a) ≡ false → group_cmp a b ≡ Less
less_from a b differ up = by (group_cmp a b) refl
  where
    by : (o : Ordering) → group_cmp a b ≡ o → o ≡ Less
    by Less e = refl
    by Equal e = let same : true ≡ false = ap is_eq (sym e) ∙ sym (fields_tie a b) ∙ differ in cc
    by Greater e = let low : true ≡ false = ap is_lt (sym (fields_total.antisymm b a ∙ ap ordering_reverse e)) ∙ up in cc
