-- A grouped list, by its parts in place of its places.
use Rattle.std.specs.Prelude.{◌≡◌, ◌↔◌, ℕ, ◌+◌, ◌-◌, ◌<◌, ◌≤◌, Bool, true, List, [], ◌∷◌, ◌++◌, length, take, drop, refl, Some, slice_get, slice_range}
use Rattle.std.proofs.Common.{zero, suc, sym, ap, subst, arith, ◌∙◌, append_assoc, get_or, length-append}
use Rattle.std.proofs.lemmas.List.{take-append-drop, length-take, get_or-take, get_or-drop}
use Rattle.std.proofs.lemmas.Option.{slice_get_within, slice_get_read, get_or_from_slice_get}
use Rattle.std.proofs.Math.Seq.{take-append_seam, drop-append_seam}
use Rattle.sgb_split.specs.Split.{last, without_last, IsAccepted, IsGrouped}
use Rattle.sgb_split.proofs.Lists.Ranges.{length-range}

module _ {A : Type 0} where
  pub get_before : (xs ys : List A) (i : ℕ) (x : A) → slice_get xs i ≡ Some x → slice_get (xs ++ ys) i ≡ Some x
  get_before [] ys i x e = cc e
  get_before (y ∷ xs) ys zero x e = e
  get_before (y ∷ xs) ys (suc i) x e = get_before xs ys i x e

  pub get_after : (xs ys : List A) (i k : ℕ) → i ≡ length xs + k → slice_get (xs ++ ys) i ≡ slice_get ys k
  get_after [] ys i k e = ap (slice_get ys) {x = i} {y = k} (omega arith)
  get_after (x ∷ xs) ys zero k e = absurd (omega arith)
  get_after (x ∷ xs) ys (suc i) k e = get_after xs ys i k (omega arith)

  -- the element at a place of a range
  pub get_range : (xs : List A) (a b i k : ℕ) (x : A) → a + k ≡ i → i < b → slice_get xs i ≡ Some x
      → slice_get (slice_range xs a b) k ≡ Some x
  get_range xs a b i k x e l at =
      let n = slice_get_within xs i x at in
      slice_get_read (slice_range xs a b) (length (slice_range xs a b)) k x refl
      (omega (arith, length-take (b - a) (drop a xs), Rattle.std.proofs.Common.length-drop a xs))
      (sym (get_or-take (b - a) (drop a xs) k x (omega arith) ∙ get_or-drop a xs k x ∙ ap (λ (m : ℕ). get_or xs m x) e
      ∙ get_or_from_slice_get xs i x x at))

  -- a part between two others is the range of its places
  pub range_between : (before mid after : List A) (b : ℕ) → b ≡ length before + length mid
      → slice_range (before ++ (mid ++ after)) (length before) b ≡ mid
  range_between before mid after b e =
      ap (λ (l : List A). take (b - length before) l) (drop-append_seam before (mid ++ after))
      ∙ ap (λ (n : ℕ). take n (mid ++ after)) {x = b - length before} {y = length mid} (omega arith)
      ∙ take-append_seam mid after

  module _ (p : A → A → Bool) where
    -- the first element and the last of the part agree, in either order, exactly if each neighbouring pair of it is accepted
    abbrev pub AgreesIn : List A → Type 0
    AgreesIn mid = (x y : A) → 1 < length mid → slice_get mid 0 ≡ Some x → slice_get mid (length mid - 1) ≡ Some y
        → ((p x y ≡ true) ↔ IsAccepted p mid) × ((p y x ≡ true) ↔ IsAccepted p mid)

    abbrev pub AllParts : List A → Type 0
    AllParts xs = (before mid after : List A) → xs ≡ before ++ (mid ++ after) → AgreesIn mid

    pub parts_of_grouped : (xs : List A) → IsGrouped p xs → AllParts xs
    parts_of_grouped xs h before mid after e x y l ex ey =
        let i = length before in
        let j = length before + (length mid - 1) in
        let gx : slice_get xs i ≡ Some x = rw e (get_after before (mid ++ after) i 0 (omega arith) ∙ get_before mid after 0 x ex) in
        let gy : slice_get xs j ≡ Some y = rw e
        (get_after before (mid ++ after) j (length mid - 1) refl ∙ get_before mid after (length mid - 1) y ey) in
        let r : slice_range xs i (j + 1) ≡ mid = rw e (range_between before mid after (j + 1) (omega arith)) in
        subst (λ (m : List A). ((p x y ≡ true) ↔ IsAccepted p m) × ((p y x ≡ true) ↔ IsAccepted p m)) r (h.at i j x y (omega arith) gx gy)

    pub grouped_of_parts : (xs : List A) → AllParts xs → IsGrouped p xs
    grouped_of_parts xs h = record {
      at = λ i j x y l ex ey.
          let n = slice_get_within xs j y ey in
          let m = length-range xs i (j + 1) (omega arith) (omega arith) in
          let whole : xs ≡ take i xs ++ (slice_range xs i (j + 1) ++ drop (j + 1) xs) = cut xs i (j + 1) (omega arith) in
          h (take i xs) (slice_range xs i (j + 1)) (drop (j + 1) xs) whole x y (omega arith)
          (get_range xs i (j + 1) i 0 x (omega arith) (omega arith) ex)
          (get_range xs i (j + 1) j (length (slice_range xs i (j + 1)) - 1) y (omega arith) (omega arith) ey);
    }
      where
        cut : (xs : List A) (a b : ℕ) → a ≤ b → xs ≡ take a xs ++ (slice_range xs a b ++ drop b xs)
        cut xs a b l =
            sym (take-append-drop a xs)
            ∙ ap (λ (l : List A). take a xs ++ l)
            (sym (take-append-drop (b - a) (drop a xs))
            ∙ ap (λ (l : List A). take (b - a) (drop a xs) ++ l)
            (Rattle.std.proofs.lemmas.List.drop-drop (b - a) a xs ∙ ap (λ (n : ℕ). drop n xs) {x = a + (b - a)} {y = b} (omega arith)))

    -- a part of a grouped list is grouped
    pub grouped_part : (before mid after : List A) → IsGrouped p (before ++ (mid ++ after)) → IsGrouped p mid
    grouped_part before mid after h =
        grouped_of_parts mid (λ b m a e. parts_of_grouped (before ++ (mid ++ after)) h (before ++ b) m (a ++ after)
        (ap (λ (l : List A). before ++ (l ++ after)) e
        ∙ ap (λ (l : List A). before ++ l) (append_assoc b (m ++ a) after ∙ ap (λ (l : List A). b ++ l) (append_assoc m a after))
        ∙ sym (append_assoc before b (m ++ (a ++ after)))))

  -- the last element stands last
  pub last_is : (xs : List A) (x : A) → last xs ≡ Some x → xs ≡ without_last xs ++ x ∷ []
  last_is [] x e = cc e
  last_is (y ∷ []) x e = let same : y ≡ x = cc e in ap (λ (z : A). z ∷ []) same
  last_is (y ∷ z ∷ zs) x e = ap (λ (l : List A). y ∷ l) (last_is (z ∷ zs) x e)
