-- The neighbouring pairs of a list, and the questions along them.
use Rattle.std.proofs.Common.{◌≡◌, ℕ, zero, suc, ◌+◌, ◌-◌, ◌<◌, Bool, true, false, List, [], ◌∷◌, ◌++◌, length, take, drop, get_or, refl, sym, ap, ◌∙◌, arith, append_assoc, inl, inr}
use Rattle.std.specs.Prelude.{reverse}
use Rattle.std.specs.List.{AllByRecursion, slice_index_or}
use Rattle.std.proofs.lemmas.List.{reverse-append, length-append, length-reverse, get_or-reverse, get_or-append-add}
use Rattle.std.proofs.Math.Seq.{take-append_seam, drop-append_seam, get_or-append_seam}
use Rattle.sgb_split.specs.declared.end.End.{End}
use Rattle.sgb_split.specs.declared.end.End.TheVariants.{Front, Back}
use Rattle.sgb_split.specs.Split.{from, put_at, neighbours, IsOneOf, AreNeighbours, on_pairs, IsAccepted, IsRefusedAcross}
use Rattle.sgb_split.specs.Linear.{all_answered, questions_along, questions}
use Rattle.sgb_split.proofs.Lists.AllByRecursion.{all_append, all_of_first, all_of_rest, all_each, all_take, all_drop, all_map, all_of_map}
use Rattle.sgb_split.proofs.Lists.Ends.{length-from, all_from, all_of_from}

-- what holds of the elements at each place and the next
pub neighbours_by_place : {A : Type 0} (P : A → A → Type 0) (xs : List A)
    → ((k j : ℕ) (d : A) → j ≡ suc k → j < length xs → P (slice_index_or xs k d) (slice_index_or xs j d))
    → AllByRecursion (λ q. P q.0 q.1) (neighbours xs)
neighbours_by_place P [] h = tt
neighbours_by_place P (x ∷ []) h = tt
neighbours_by_place P (x ∷ y ∷ ys) h =
    (h 0 1 x refl (omega arith), neighbours_by_place P (y ∷ ys) (λ k j d e l. h (suc k) (suc j) d (ap suc e) (omega arith)))

module _ {A : Type 0} where
  -- the pair that stands across two lists, if neither is empty
  abbrev pub across : List A → List A → List (A × A)
  across [] ys = []
  across (x ∷ z ∷ zs) ys = across (z ∷ zs) ys
  across (x ∷ []) [] = []
  across (x ∷ []) (y ∷ ys) = (x, y) ∷ []

  pub neighbours-append : (xs ys : List A) → neighbours (xs ++ ys) ≡ neighbours xs ++ (across xs ys ++ neighbours ys)
  neighbours-append [] ys = refl
  neighbours-append (x ∷ []) [] = refl
  neighbours-append (x ∷ []) (y ∷ ys) = refl
  neighbours-append (x ∷ z ∷ zs) ys = ap (λ l. (x, z) ∷ l) (neighbours-append (z ∷ zs) ys)

  pub length-neighbours : (xs : List A) → length (neighbours xs) ≡ length xs - 1
  length-neighbours [] = refl
  length-neighbours (x ∷ []) = refl
  length-neighbours (x ∷ y ∷ ys) = omega (arith, length-neighbours (y ∷ ys))

  -- one of a part is one of the whole
  pub one_of_first : (qs rs : List (A × A)) (q : A × A) → IsOneOf qs q → IsOneOf (qs ++ rs) q
  one_of_first [] rs q h = absurd h
  one_of_first (r ∷ qs) rs q (inl e) = inl e
  one_of_first (r ∷ qs) rs q (inr h) = inr (one_of_first qs rs q h)

  pub one_of_rest : (qs rs : List (A × A)) (q : A × A) → IsOneOf rs q → IsOneOf (qs ++ rs) q
  one_of_rest [] rs q h = h
  one_of_rest (r ∷ qs) rs q h = inr (one_of_rest qs rs q h)

  pub neighbours_of_rest : (e : End) (part rest : List A) (q : A × A) → AreNeighbours rest q → AreNeighbours (put_at e part rest) q
  neighbours_of_rest Front part rest q h =
      rw (neighbours-append part rest) (one_of_rest (neighbours part) _ q (one_of_rest (across part rest) (neighbours rest) q h))
  neighbours_of_rest Back part rest q h = rw (neighbours-append rest part) (one_of_first (neighbours rest) _ q h)

  all_one_of : (qs : List (A × A)) → AllByRecursion (IsOneOf qs) qs
  all_one_of [] = tt
  all_one_of (q ∷ qs) = (inl (refl, refl), all_each (IsOneOf qs) (IsOneOf (q ∷ qs)) (λ r h. inr h) qs (all_one_of qs))

  -- each question is about one of the pairs
  along_about : (P : A × A → Type 0) (qs : List (A × A)) (g : ℕ) → AllByRecursion P qs → AllByRecursion (λ r. P r.0) (questions_along qs g)
  along_about P qs g h =
      all_append (λ r. P r.0) (all_answered true (take (g - 1) qs)) (all_answered false (take 1 (drop (g - 1) qs)))
      (all_map (λ q. (q, true)) (λ r. P r.0) (take (g - 1) qs) (all_take P (g - 1) qs h))
      (all_map (λ q. (q, false)) (λ r. P r.0) (take 1 (drop (g - 1) qs)) (all_take P 1 (drop (g - 1) qs) (all_drop P (g - 1) qs h)))

  pub about : (e : End) (xs : List A) (g : ℕ) → AllByRecursion (λ r. AreNeighbours xs r.0) (questions e xs g)
  about e xs g =
      along_about (AreNeighbours xs) (from e (neighbours xs)) g (all_from (AreNeighbours xs) e (neighbours xs) (all_one_of (neighbours xs)))

  -- the two parts of a list in their order, the one at the end and the rest
  abbrev pub in_order : End → List A → List A → List A × List A
  in_order Front part rest = (part, rest)
  in_order Back part rest = (rest, part)

  abbrev pub pair_across : End → List A → List A → List (A × A)
  pair_across e part rest = across (in_order e part rest).0 (in_order e part rest).1

  reverse-across : (xs ys : List A) → reverse (across xs ys) ≡ across xs ys
  reverse-across [] ys = refl
  reverse-across (x ∷ []) [] = refl
  reverse-across (x ∷ []) (y ∷ ys) = refl
  reverse-across (x ∷ z ∷ zs) ys = reverse-across (z ∷ zs) ys

  -- from the end on: the pairs of the part, the one between, and those of the rest
  pub neighbours-put_at : (e : End) (part rest : List A)
      → from e (neighbours (put_at e part rest)) ≡ from e (neighbours part) ++ (pair_across e part rest ++ from e (neighbours rest))
  neighbours-put_at Front part rest = neighbours-append part rest
  neighbours-put_at Back part rest =
      ap reverse (neighbours-append rest part) ∙ reverse-append (neighbours rest) (across rest part ++ neighbours part)
      ∙ ap (λ l. l ++ reverse (neighbours rest)) (reverse-append (across rest part) (neighbours part)
      ∙ ap (λ l. reverse (neighbours part) ++ l) (reverse-across rest part))
      ∙ append_assoc (reverse (neighbours part)) (across rest part) (reverse (neighbours rest))

  -- a pair at its place
  pub record PairAt (qs : List (A × A)) (k : ℕ) (q : A × A) : Type 0 where
    pub inside : k < length qs
    pub is : get_or qs k q ≡ q

  pub neighbours_at : (xs : List A) (k : ℕ) (a b : A) → suc k < length xs → a ≡ get_or xs k a → b ≡ get_or xs (suc k) b
      → PairAt (neighbours xs) k (a, b)
  neighbours_at xs k a b l e f = record { inside = omega (arith, length-neighbours xs); is = at xs k l e f }
    where
      at : (xs : List A) (k : ℕ) → suc k < length xs → a ≡ get_or xs k a → b ≡ get_or xs (suc k) b
          → get_or (neighbours xs) k (a, b) ≡ (a, b)
      at [] k l e f = absurd (omega arith)
      at (x ∷ []) k l e f = absurd (omega arith)
      at (x ∷ y ∷ ys) zero l e f = rw (← e, ← f) refl
      at (x ∷ y ∷ ys) (suc k) l e f = at (y ∷ ys) k (omega arith) e f

  pub pair_between : (xs seen rest : List A) (a b : A) → xs ≡ seen ++ a ∷ b ∷ rest → PairAt (neighbours xs) (length seen) (a, b)
  pair_between xs seen rest a b e =
      neighbours_at xs (length seen) a b (omega (arith, ap length e, length-append seen (a ∷ b ∷ rest)))
      (sym (ap (λ l. get_or l (length seen) a) e ∙ get_or-append_seam seen a (b ∷ rest) a))
      (sym (ap (λ l. get_or l (suc (length seen)) b) e
      ∙ ap (λ (n : ℕ). get_or (seen ++ a ∷ b ∷ rest) n b) {x = suc (length seen)} {y = length seen + 1} (omega arith)
      ∙ get_or-append-add seen (a ∷ b ∷ rest) 1 b))

  pub at_reverse : (qs : List (A × A)) (k j : ℕ) (q : A × A) → PairAt qs k q → k + j + 1 ≡ length qs → PairAt (reverse qs) j q
  at_reverse qs k j q h e = record {
    inside = omega (arith, length-reverse qs);
    is = get_or-reverse qs j q (omega arith) ∙ ap (λ (n : ℕ). get_or qs n q) {x = length qs - 1 - j} {y = k} (omega arith) ∙ h.is;
  }

  pub one_of_at : (qs : List (A × A)) (k : ℕ) (q : A × A) → PairAt qs k q → IsOneOf qs q
  one_of_at qs k q h = at qs k h.inside h.is
    where
      at : (qs : List (A × A)) (k : ℕ) → k < length qs → get_or qs k q ≡ q → IsOneOf qs q
      at [] k l e = absurd (omega arith)
      at (r ∷ rs) zero l e = inl (ap (λ q. q.0) (sym e), ap (λ q. q.1) (sym e))
      at (r ∷ rs) (suc k) l e = inr (at rs k (omega arith) e)

  -- what the answers say of a test
  module _ (p : A → A → Bool) where
    abbrev Agrees : (A × A) × Bool → Type 0
    Agrees r = r.1 ≡ on_pairs p r.0

    along_says : (qs rs : List (A × A)) (g : ℕ) → g - 1 ≡ length qs → AllByRecursion Agrees (questions_along (qs ++ rs) g)
        → AllByRecursion (λ q. on_pairs p q ≡ true) qs × AllByRecursion (λ q. on_pairs p q ≡ false) (take 1 rs)
    along_says qs rs g e h =
        let k = rw (e, take-append_seam qs rs, drop-append_seam qs rs) at h in (
          all_each _ _ (λ q a. sym a) qs (all_of_map (λ q. (q, true)) Agrees qs (all_of_first Agrees (all_answered true qs) _ k)),
          all_each _ _ (λ q a. sym a) (take 1 rs)
              (all_of_map (λ q. (q, false)) Agrees (take 1 rs) (all_of_rest Agrees (all_answered true qs) _ k)),
        )

    refused_across : (xs ys : List A) (rs : List (A × A)) → AllByRecursion (λ q. on_pairs p q ≡ false) (take 1 (across xs ys ++ rs))
        → IsRefusedAcross p (xs, ys)
    refused_across [] ys rs h = λ a b i j. cc i
    refused_across (x ∷ []) [] rs h = λ a b i j. cc j
    refused_across (x ∷ []) (y ∷ ys) rs h = λ a b i j. let e : p x y ≡ false = h.0 in cc (e, i, j)
    refused_across (x ∷ z ∷ zs) ys rs h = refused_across (z ∷ zs) ys rs h

    -- the group is accepted inside, and refused towards the rest
    pub says : (e : End) (group rest : List A) → 0 < length group → AllByRecursion Agrees (questions e (put_at e group rest) (length group))
        → IsAccepted p group × IsRefusedAcross p (in_order e group rest)
    says e group rest l h =
        let n = length-from e (neighbours group) in
        let k = along_says (from e (neighbours group)) (pair_across e group rest ++ from e (neighbours rest)) (length group)
        (omega (arith, n, length-neighbours group)) (rw (neighbours-put_at e group rest) at h) in (
          all_of_from _ e (neighbours group) k.0,
          refused_across (in_order e group rest).0 (in_order e group rest).1 (from e (neighbours rest)) k.1,
        )
