-- How long the first piece of a split is: as long as the beginnings that are accepted.
use Rattle.std.specs.Prelude.{◌≡◌, ◌↔◌, ℕ, ◌+◌, ◌-◌, ◌<◌, Bool, true, false, List, [], ◌∷◌, length, take, Some, slice_get, nat_lt}
use Rattle.std.proofs.Common.{zero, suc, refl, sym, ap, subst, arith}
use Rattle.std.proofs.lemmas.Bool.Decides.{nat_tests}
use Rattle.std.proofs.lemmas.Option.{slice_get_within}
use Rattle.sgb_split.specs.Split.{first, split, put_before, IsAccepted, IsGrouped}

module _ {A : Type 0} (p : A → A → Bool) where
  -- the length of the first piece
  abbrev front_len : List (List A) → ℕ
  front_len [] = 0
  front_len (g ∷ gs) = length g

  front_of_first : (ps : List (List A)) (g : List A) → first ps ≡ Some g → front_len ps ≡ length g
  front_of_first [] g e = cc e
  front_of_first (h ∷ hs) g e = let same : h ≡ g = cc e in ap length same

  joined : (x : A) (gs : List (List A)) → front_len (put_before p true x gs) ≡ front_len gs + 1
  joined x [] = refl
  joined x (g ∷ gs) = omega arith

  front_some : (b : Bool) (x : A) (gs : List (List A)) → 0 < front_len (put_before p b x gs)
  front_some true x gs = omega (arith, joined x gs)
  front_some false x gs = omega arith

  -- the elements up to the place q are accepted exactly if the first piece has more than q
  beginning_accepted : (xs : List A) (q : ℕ) → q < length xs → IsAccepted p (take (suc q) xs) ↔ (q < front_len (split p xs))
  beginning_accepted [] q l = absurd (omega (arith, l))
  beginning_accepted (x ∷ []) zero l = (λ h. omega arith, λ h. tt)
  beginning_accepted (x ∷ []) (suc q) l = absurd (omega (arith, l))
  beginning_accepted (x ∷ y ∷ ys) zero l = (λ h. front_some (p x y) x (split p (y ∷ ys)), λ h. tt)
  beginning_accepted (x ∷ y ∷ ys) (suc q) l = by (beginning_accepted (y ∷ ys) q (omega (arith, l))) (p x y) refl
    where
      by : IsAccepted p (take (suc q) (y ∷ ys)) ↔ (q < front_len (split p (y ∷ ys))) → (b : Bool) → p x y ≡ b
          → ((p x y ≡ true) × IsAccepted p (take (suc q) (y ∷ ys))) ↔ (suc q < front_len (put_before p (p x y) x (split p (y ∷ ys))))
      by next true e = rw e
          (λ h. omega (arith, next.0 h.1, joined x (split p (y ∷ ys))), λ h. (refl, next.1 (omega (arith, h, joined x (split p (y ∷ ys))))))
      by next false e = rw e (λ h. cc h.0, λ h. absurd (omega (arith, h)))

  decided : (b : Bool) (q n : ℕ) → ((b ≡ true) ↔ (q < n)) → b ≡ nat_lt q n
  decided true q n h = grind (arith, nat_tests, h.0 refl)
  decided false q n h = by (nat_lt q n) refl
    where
      by : (c : Bool) → nat_lt q n ≡ c → false ≡ nat_lt q n
      by false e = sym e
      by true e = let l : q < n = grind (arith, nat_tests) in cc (h.1 l)

pub first_agrees : {A : Type 0} (p : A → A → Bool) (xs group : List A) → IsGrouped p xs → first (split p xs) ≡ Some group
    → (q : ℕ) (x y : A) → 0 < q → slice_get xs 0 ≡ Some x → slice_get xs q ≡ Some y
    → (p x y ≡ nat_lt q (length group)) × (p y x ≡ nat_lt q (length group))
first_agrees p xs group h e q x y some ex ey =
    let agrees = h.at 0 q x y some ex ey in
    let begins = subst (λ m. IsAccepted p (take m xs) ↔ (q < front_len p (split p xs))) {x = suc q} {y = q + 1 - 0} (omega arith)
    (beginning_accepted p xs q (slice_get_within xs q y ey)) in
    let n = front_of_first p (split p xs) group e in (
      subst (λ m. p x y ≡ nat_lt q m) n
          (decided p (p x y) q _ (λ t. begins.0 (agrees.0.0 t), λ l. agrees.0.1 (begins.1 l))),
      subst (λ m. p y x ≡ nat_lt q m) n
          (decided p (p y x) q _ (λ t. begins.0 (agrees.1.0 t), λ l. agrees.1.1 (begins.1 l))),
    )
