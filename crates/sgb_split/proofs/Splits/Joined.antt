-- The split of two lists, one after the other, is that of the one and that of the other, joined at the seam.
use Rattle.std.proofs.Common.{◌≡◌, ℕ, ◌+◌, Bool, true, false, cond, List, [], ◌∷◌, ◌++◌, length, Some, refl, sym, ap, ◌∙◌, subst, arith}
use Rattle.std.specs.Prelude.{◌≢◌, not}
use Rattle.std.specs.List.{AllByRecursion}
use Rattle.sgb_split.specs.Split.{last, without_last, put_before, split, IsAccepted}
use Rattle.sgb_split.specs.Seams.{is_accepted_across, join_first, seam}
use Rattle.sgb_split.proofs.Splits.Split.{split_begins, split_is, split_alone, length-put_before}

module _ {A : Type 0} (p : A → A → Bool) where
  -- an element before a piece that begins with another
  join_one : (x y : A) (more : List A) (others : List (List A))
      → put_before p (p x y) x ((y ∷ more) ∷ others) ≡ join_first p (x ∷ []) ((y ∷ more) ∷ others)
  join_one x y more others = by (p x y)
    where
      by : (b : Bool) → put_before p b x ((y ∷ more) ∷ others) ≡ cond b ((x ∷ y ∷ more) ∷ others) ((x ∷ []) ∷ (y ∷ more) ∷ others)
      by true = refl
      by false = refl

  join_longer : (x z : A) (more : List A) (qs : List (List A))
      → put_before p true x (join_first p (z ∷ more) qs) ≡ join_first p (x ∷ z ∷ more) qs
  join_longer x z more [] = refl
  join_longer x z more (h ∷ hs) = by (is_accepted_across p (z ∷ more) h)
    where
      by : (b : Bool) → put_before p true x (cond b ((z ∷ (more ++ h)) ∷ hs) ((z ∷ more) ∷ h ∷ hs))
          ≡ cond b ((x ∷ z ∷ (more ++ h)) ∷ hs) ((x ∷ z ∷ more) ∷ h ∷ hs)
      by true = refl
      by false = refl

  -- an element before pieces that are joined at the seam
  put_before_seam : (b : Bool) (x z : A) (more : List A) (others qs : List (List A))
      → put_before p b x (seam p ((z ∷ more) ∷ others) qs) ≡ seam p (put_before p b x ((z ∷ more) ∷ others)) qs
  put_before_seam false x z more others qs = refl
  put_before_seam true x z more [] qs = join_longer x z more qs
  put_before_seam true x z more (g ∷ gs) qs = refl

  pub split_joins : (xs ys : List A) → split p (xs ++ ys) ≡ seam p (split p xs) (split p ys)
  split_joins [] ys = refl
  split_joins (x ∷ []) [] = refl
  split_joins (x ∷ []) (y ∷ ys) = let h = split_begins p y ys in rw h.is (join_one x y h.more h.others)
  split_joins (x ∷ z ∷ zs) ys =
      let h = split_begins p z zs in
      ap (put_before p (p x z) x) (split_joins (z ∷ zs) ys) ∙ rw h.is (put_before_seam (p x z) x z h.more h.others (split p ys))

  -- only the last piece is still open
  seam_last : (ps : List (List A)) (g : List A) (qs : List (List A)) → last ps ≡ Some g → seam p ps qs ≡ without_last ps ++ join_first p g qs
  seam_last [] g qs e = cc e
  seam_last (h ∷ []) g qs e = let same : h ≡ g = cc e in ap (λ k. join_first p k qs) same
  seam_last (h ∷ k ∷ ks) g qs e = ap (λ l. h ∷ l) (seam_last (k ∷ ks) g qs e)

  last_all : (P : List A → Type 0) (ps : List (List A)) (g : List A) → AllByRecursion P ps → last ps ≡ Some g → P g
  last_all P [] g h e = cc e
  last_all P (k ∷ []) g h e = let same : k ≡ g = cc e in subst P same h.0
  last_all P (k ∷ l ∷ ls) g h e = last_all P (l ∷ ls) g h.1 e

  -- a piece is split into itself
  pub piece_alone : (g : List A) → g ≢ [] → IsAccepted p g → split p g ≡ g ∷ []
  piece_alone [] n a = absurd (n refl)
  piece_alone (x ∷ xs) n a = split_alone p x xs a

  pub last_stays_open : (xs ys g : List A) → last (split p xs) ≡ Some g → split p (xs ++ ys) ≡ without_last (split p xs) ++ split p (g ++ ys)
  last_stays_open xs ys g e =
      let is = split_is p xs in
      let alone = piece_alone g (last_all _ (split p xs) g is.nonempty e) (last_all _ (split p xs) g is.accepted e) in
      split_joins xs ys ∙ seam_last (split p xs) g (split p ys) e
      ∙ ap (λ l. without_last (split p xs) ++ l) (sym (split_joins g ys ∙ ap (λ l. seam p l (split p ys)) alone))

  -- how many pieces there are
  length-put : (b : Bool) (x z : A) (zs : List A) → length (put_before p b x (split p (z ∷ zs))) ≡ cond (not b) 1 0 + length (split p (z ∷ zs))
  length-put b x z zs = let h = split_begins p z zs in rw h.is (length-put_before p b x (z ∷ h.more) h.others)

  either : (b : Bool) → ◌≡◌ {A = ℕ} (cond (not b) 1 0 + cond b 1 0) 1
  either true = refl
  either false = refl

  pub joined_count : (xs ys : List A) → length (split p (xs ++ ys)) + cond (is_accepted_across p xs ys) 1 0
      ≡ length (split p xs) + length (split p ys)
  joined_count [] ys = omega arith
  joined_count (x ∷ []) [] = refl
  joined_count (x ∷ []) (y ∷ ys) = omega (arith, length-put (p x y) x y ys, either (p x y))
  joined_count (x ∷ z ∷ zs) ys =
      omega (arith, length-put (p x z) x z (zs ++ ys), length-put (p x z) x z zs, joined_count (z ∷ zs) ys)
