-- A scan that compares with the element at the end finds the first pair of neighbours that differs: equality is symmetric and transitive.
use Rattle.std.proofs.Common.{◌≡◌, ℕ, ◌+◌, ◌-◌, ◌<◌, ◌≤◌, Bool, true, false, not, List, length, get_or, ◌⊎◌, inl, inr}
use Rattle.std.proofs.Common.{sym, ap, ◌∙◌, subst, arith, ⊎_elim}
use Rattle.std.proofs.lemmas.Bool.{cases_lt, false_from_ne_true, false≢true}
use Rattle.std.proofs.lemmas.List.{length-reverse}
use Rattle.std.specs.Cmp.{IsPartialEquivalence}
use Rattle.std.specs.Prelude.{reverse}
use Rattle.sgb_numbers.specs.Numbers.{differs, AreLike, AreSame}
use Rattle.sgb_numbers.proofs.Pairs.{differs_or}
use Rattle.sgb_numbers.proofs.Reversed.{at_reverse, like_reverse}

module _ {T : Type 0} (eq : T → T → Bool) (xs : List T) where
  abbrev pub is_cut : ℕ → Type 0
  is_cut p = differs eq xs p ≡ true

  module _ (laws : IsPartialEquivalence eq) (e : T) where
    abbrev at : ℕ → T
    at k = get_or xs k e

    -- the number itself, or one that is equal to it
    abbrev IsLike : ℕ → Type 0
    IsLike k = (at k ≡ e) ⊎ (eq (at k) e ≡ true)

    same_pair : (p : ℕ) → p + 1 < length xs → eq (at p) (at (p + 1)) ≡ true → differs eq xs p ≡ false
    same_pair p l h = differs_or eq xs p e l ∙ ap not h

    cut_pair : (p : ℕ) → p + 1 < length xs → (eq (at p) (at (p + 1)) ≡ true → ⊥) → is_cut p
    cut_pair p l h = differs_or eq xs p e l ∙ ap not (false_from_ne_true (eq (at p) (at (p + 1))) h)

    -- going up from the place of the number
    module _ (from end : ℕ) (here : e ≡ at from) (order : from + 1 ≤ end) (within : end ≤ length xs)
        (like : AreLike eq e xs (from + 1) end) where
      like_from : (p : ℕ) → from ≤ p → p < end → IsLike p
      like_from p a b =
          ⊎_elim (λ l. inl (ap at {x = p} {y = from} (omega (arith, a, l)) ∙ sym here)) (λ l. inr (like.at p l b)) (cases_lt p (from + 1))

      pub scanned_same : AreSame eq xs from (end - 1)
      scanned_same = record {
        at =
            λ p a b.
            let next = like.at (p + 1) (omega (arith, a)) (omega (arith, b)) in
            same_pair p (omega (arith, b, within)) (equal_next p (like_from p a (omega (arith, b))) next);
      }
        where
          equal_next : (p : ℕ) → IsLike p → eq (at (p + 1)) e ≡ true → eq (at p) (at (p + 1)) ≡ true
          equal_next p (inl i) h = subst (λ x. eq x (at (p + 1)) ≡ true) (sym i) (laws.symm e (at (p + 1)) ∙ h)
          equal_next p (inr k) h = laws.trans (at p) e (at (p + 1)) k (laws.symm e (at (p + 1)) ∙ h)

      pub scanned_cut : end < length xs → eq (at end) e ≡ false → is_cut (end - 1)
      scanned_cut more unlike =
          let next : end - 1 + 1 ≡ end = omega (arith, order) in
          let other : eq (at (end - 1 + 1)) e ≡ false = ap (λ (n : ℕ). eq (at n) e) next ∙ unlike in
          cut_pair (end - 1) (omega (arith, order, more))
          (λ same. false≢true (sym other ∙ back (like_from (end - 1) (omega (arith, order)) (omega (arith, order))) same))
        where
          back : IsLike (end - 1) → eq (at (end - 1)) (at (end - 1 + 1)) ≡ true → eq (at (end - 1 + 1)) e ≡ true
          back (inl i) same = laws.symm (at (end - 1 + 1)) e ∙ subst (λ x. eq x (at (end - 1 + 1)) ≡ true) i same
          back (inr k) same = laws.trans (at (end - 1 + 1)) (at (end - 1)) e (laws.symm (at (end - 1 + 1)) (at (end - 1)) ∙ same) k

-- going down from the place of the number: up in the reversed list
module _ {T : Type 0} (eq : T → T → Bool) (xs : List T) (laws : IsPartialEquivalence eq) (e : T) (start upto : ℕ)
    (here : e ≡ get_or xs upto e) (order : start ≤ upto) (within : upto < length xs) (like : AreLike eq e xs start upto) where
  here_back : e ≡ get_or (reverse xs) (length xs - 1 - upto) e
  here_back = here ∙ sym (at_reverse xs (length xs - 1 - upto) upto e (omega arith))

  like_back : AreLike eq e (reverse xs) (length xs - 1 - upto + 1) (length xs - start)
  like_back = like_reverse eq e xs _ _ start upto (omega arith) (omega arith) like

  pub scanned_back_same : AreSame eq (reverse xs) (length xs - 1 - upto) (length xs - start - 1)
  scanned_back_same =
      scanned_same eq (reverse xs) laws e _ (length xs - start) here_back (omega arith) (omega (arith, length-reverse xs)) like_back

  pub scanned_back_cut : 0 < start → eq (get_or xs (start - 1) e) e ≡ false → is_cut eq (reverse xs) (length xs - start - 1)
  scanned_back_cut more unlike =
      scanned_cut eq (reverse xs) laws e _ (length xs - start) here_back (omega arith) (omega (arith, length-reverse xs)) like_back
      (omega (arith, length-reverse xs))
      (ap (λ x. eq x e) (at_reverse xs (length xs - start) (start - 1) e (omega arith)) ∙ unlike)
