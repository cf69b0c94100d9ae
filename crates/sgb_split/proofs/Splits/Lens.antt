-- The lengths of the pieces of two lists, one after the other, are those of the one and of the other, joined at the seam.
use Rattle.std.proofs.Common.{◌≡◌, ℕ, suc, ◌+◌, Bool, true, false, List, [], ◌∷◌, ◌++◌, length, map, refl, sym, ap, ◌∙◌, arith}
use Rattle.sgb_split.specs.Split.{put_before, split}
use Rattle.sgb_split.specs.Seams.{is_accepted_across, lens_joined}
use Rattle.sgb_split.proofs.Splits.Split.{split_begins}

-- the lengths of pieces once an element is put before them
abbrev put_len : Bool → List ℕ → List ℕ
put_len true [] = 1 ∷ []
put_len true (n ∷ ns) = suc n ∷ ns
put_len false ns = 1 ∷ ns

-- what is put before lengths is put before them joined
put_len_joined : (c b : Bool) (m : ℕ) (ms ns : List ℕ) → put_len c (lens_joined b (m ∷ ms) ns) ≡ lens_joined b (put_len c (m ∷ ms)) ns
put_len_joined false b m ms ns = refl
put_len_joined true b m (k ∷ ms) ns = refl
put_len_joined true b m [] [] = refl
put_len_joined true true m [] (n ∷ ns) = ap (λ (k : ℕ). k ∷ ns) {x = suc (m + n)} {y = suc m + n} (omega arith)
put_len_joined true false m [] (n ∷ ns) = refl

module _ {A : Type 0} (p : A → A → Bool) where
  lens_put : (b : Bool) (x : A) (ps : List (List A)) → map length (put_before p b x ps) ≡ put_len b (map length ps)
  lens_put true x [] = refl
  lens_put true x (g ∷ gs) = refl
  lens_put false x ps = refl

  put_one : (b : Bool) (n : ℕ) (ns : List ℕ) → put_len b (n ∷ ns) ≡ lens_joined b (1 ∷ []) (n ∷ ns)
  put_one true n ns = ap (λ (k : ℕ). k ∷ ns) {x = suc n} {y = 1 + n} (omega arith)
  put_one false n ns = refl

  pub lens_of_both : (xs ys : List A)
      → map length (split p (xs ++ ys)) ≡ lens_joined (is_accepted_across p xs ys) (map length (split p xs)) (map length (split p ys))
  lens_of_both [] ys = refl
  lens_of_both (x ∷ []) [] = refl
  lens_of_both (x ∷ []) (y ∷ ys) =
      let h = split_begins p y ys in
      lens_put (p x y) x (split p (y ∷ ys)) ∙ rw h.is (put_one (p x y) (length (y ∷ h.more)) (map length h.others))
  lens_of_both (x ∷ z ∷ zs) ys =
      let h = split_begins p z zs in
      lens_put (p x z) x (split p (z ∷ zs ++ ys)) ∙ ap (put_len (p x z)) (lens_of_both (z ∷ zs) ys)
      ∙ rw h.is (put_len_joined (p x z) (is_accepted_across p (z ∷ zs) ys) (length (z ∷ h.more)) (map length h.others) (map length (split p ys)))
      ∙ ap (λ l. lens_joined (is_accepted_across p (z ∷ zs) ys) l (map length (split p ys))) (sym (lens_put (p x z) x (split p (z ∷ zs))))
