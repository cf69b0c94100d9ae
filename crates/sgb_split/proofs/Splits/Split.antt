-- A split exists, it is the only one, and its outermost pieces come off alone.
use Rattle.std.proofs.Common.{◌≡◌, ◌+◌, ◌<◌, ◌≤◌, Bool, true, false, not, cond, List, [], ◌∷◌, ◌++◌, length}
use Rattle.std.proofs.Common.{None, Some, refl, sym, ap, ◌∙◌, subst, arith}
use Rattle.std.specs.Prelude.{◌≢◌}
use Rattle.std.specs.List.{AllByRecursion}
use Rattle.std.proofs.lemmas.List.{append-nil}
use Rattle.std.proofs.lemmas.List.Sums.{sum_by-cons}
use Rattle.sgb_split.specs.declared.end.End.{End}
use Rattle.sgb_split.specs.declared.end.End.TheVariants.{Front, Back}
use Rattle.sgb_split.specs.Split.{put_at, first, last, without_first, without_last, neighbours, on_pairs, concat, IsAccepted, IsRefusedAcross, IsSplit, put_before, split, refused_pairs, TakesPiece}
use Rattle.sgb_split.proofs.Lists.Pairs.{in_order}

pub last_push : {X : Type 0} (xs : List X) (y : X) → last (xs ++ y ∷ []) ≡ Some y
last_push [] y = refl
last_push (x ∷ []) y = refl
last_push (x ∷ z ∷ zs) y = last_push (z ∷ zs) y

pub without_last_push : {X : Type 0} (xs : List X) (y : X) → without_last (xs ++ y ∷ []) ≡ xs
without_last_push [] y = refl
without_last_push (x ∷ []) y = refl
without_last_push (x ∷ z ∷ zs) y = ap (λ l. x ∷ l) (without_last_push (z ∷ zs) y)

module _ {A : Type 0} (p : A → A → Bool) where
  -- a longer first piece that ends in the same element
  refused_longer : (x y : A) (ys : List A) (gs : List (List A)) → AllByRecursion (IsRefusedAcross p) (neighbours ((y ∷ ys) ∷ gs))
      → AllByRecursion (IsRefusedAcross p) (neighbours ((x ∷ y ∷ ys) ∷ gs))
  refused_longer x y ys [] r = tt
  refused_longer x y ys (g ∷ gs) r = r

  -- existence: the split begins with a piece that begins with the first element
  pub record Begins (x : A) (xs : List A) (ps : List (List A)) : Type 0 where
    pub more : List A
    pub others : List (List A)
    pub is : ps ≡ (x ∷ more) ∷ others
    pub whole : IsSplit p (x ∷ xs) ((x ∷ more) ∷ others)

  begins_at : (x y : A) (ys : List A) (b : Bool) → p x y ≡ b → (ps : List (List A)) → Begins y ys ps
      → Begins x (y ∷ ys) (put_before p b x ps)
  begins_at x y ys true e ps h = record {
    more = y ∷ h.more;
    others = h.others;
    is = ap (put_before p true x) h.is;
    whole = record {
      covers = ap (λ l. x ∷ l) h.whole.covers;
      nonempty = (λ n. cc n, h.whole.nonempty.1);
      accepted = ((e, h.whole.accepted.0), h.whole.accepted.1);
      refused = refused_longer x y h.more h.others h.whole.refused;
    };
  }
  begins_at x y ys false e ps h = record {
    more = [];
    others = (y ∷ h.more) ∷ h.others;
    is = ap (put_before p false x) h.is;
    whole = record {
      covers = ap (λ l. x ∷ l) h.whole.covers;
      nonempty = (λ n. cc n, h.whole.nonempty);
      accepted = (tt, h.whole.accepted);
      refused = (λ a b i j. cc (e, i, j), h.whole.refused);
    };
  }

  pub split_begins : (x : A) (xs : List A) → Begins x xs (split p (x ∷ xs))
  split_begins x [] =
      record {
        more = [];
        others = [];
        is = refl;
        whole = record { covers = refl; nonempty = (λ n. cc n, tt); accepted = (tt, tt); refused = tt };
      }
  split_begins x (y ∷ ys) = begins_at x y ys (p x y) refl (split p (y ∷ ys)) (split_begins y ys)

  pub split_is : (xs : List A) → IsSplit p xs (split p xs)
  split_is [] = record { covers = refl; nonempty = tt; accepted = tt; refused = tt }
  split_is (x ∷ xs) = let h = split_begins x xs in subst (IsSplit p (x ∷ xs)) (sym h.is) h.whole

  -- a list that begins with a piece
  pub split_first : (x : A) (xs rest : List A) → IsAccepted p (x ∷ xs) → IsRefusedAcross p (x ∷ xs, rest)
      → split p ((x ∷ xs) ++ rest) ≡ (x ∷ xs) ∷ split p rest
  split_first x [] [] a r = refl
  split_first x [] (z ∷ zs) a r = let e : p x z ≡ false = r x z refl refl in rw e refl
  split_first x (y ∷ ys) rest a r = rw (a.0, split_first y ys rest a.1 r) refl

  -- uniqueness
  refused_before : (g : List A) (gs : List (List A)) → AllByRecursion (λ h. h ≢ []) gs
      → AllByRecursion (IsRefusedAcross p) (neighbours (g ∷ gs)) → IsRefusedAcross p (g, concat gs)
  refused_before g [] n r = λ a b i j. cc j
  refused_before g ([] ∷ gs) n r = absurd (n.0 refl)
  refused_before g ((y ∷ ys) ∷ gs) n r = r.0

  pub refused_after : (g : List A) (gs : List (List A)) → AllByRecursion (IsRefusedAcross p) (neighbours (g ∷ gs))
      → AllByRecursion (IsRefusedAcross p) (neighbours gs)
  refused_after g [] r = tt
  refused_after g (h ∷ gs) r = r.1

  split_joined : (ps : List (List A)) → AllByRecursion (λ h. h ≢ []) ps → AllByRecursion (IsAccepted p) ps
      → AllByRecursion (IsRefusedAcross p) (neighbours ps) → split p (concat ps) ≡ ps
  split_joined [] n a r = refl
  split_joined ([] ∷ gs) n a r = absurd (n.0 refl)
  split_joined ((x ∷ xs) ∷ gs) n a r =
      split_first x xs (concat gs) a.0 (refused_before (x ∷ xs) gs n.1 r)
      ∙ ap (λ l. (x ∷ xs) ∷ l) (split_joined gs n.1 a.1 (refused_after (x ∷ xs) gs r))

  pub split_only : (xs : List A) (ps : List (List A)) → IsSplit p xs ps → ps ≡ split p xs
  split_only xs ps h = sym (split_joined ps h.nonempty h.accepted h.refused) ∙ ap (split p) h.covers

  -- a list that ends with a piece
  put_before_push : (b : Bool) (x : A) (g : List A) (gs : List (List A)) (h : List A)
      → put_before p b x ((g ∷ gs) ++ h ∷ []) ≡ put_before p b x (g ∷ gs) ++ h ∷ []
  put_before_push true x g gs h = refl
  put_before_push false x g gs h = refl

  pub split_alone : (y : A) (ys : List A) → IsAccepted p (y ∷ ys) → split p (y ∷ ys) ≡ (y ∷ ys) ∷ []
  split_alone y ys a = ap (split p) (sym (append-nil (y ∷ ys))) ∙ split_first y ys [] a (λ u v i j. cc j)

  pub split_last : (rest : List A) (y : A) (ys : List A) → IsAccepted p (y ∷ ys) → IsRefusedAcross p (rest, y ∷ ys)
      → split p (rest ++ y ∷ ys) ≡ split p rest ++ (y ∷ ys) ∷ []
  split_last [] y ys a r = split_alone y ys a
  split_last (x ∷ []) y ys a r = let e : p x y ≡ false = r x y refl refl in rw (e, split_alone y ys a) refl
  split_last (x ∷ z ∷ zs) y ys a r =
      let h = split_begins z zs in
      ap (put_before p (p x z) x) (split_last (z ∷ zs) y ys a r) ∙ rw h.is (put_before_push (p x z) x (z ∷ h.more) h.others (y ∷ ys))

  -- what comes off a list whose outermost part is accepted inside and refused towards the rest
  pub takes_piece : (e : End) (x : A) (xs rest : List A) → IsAccepted p (x ∷ xs) → IsRefusedAcross p (in_order e (x ∷ xs) rest)
      → TakesPiece p e (put_at e (x ∷ xs) rest) (Some (x ∷ xs)) rest
  takes_piece Front x xs rest a r = let e = split_first x xs rest a r in (ap first (sym e), ap without_first (sym e))
  takes_piece Back x xs rest a r =
      let e = split_last rest x xs a r in
      (sym (ap last e ∙ last_push (split p rest) (x ∷ xs)), sym (ap without_last e ∙ without_last_push (split p rest) (x ∷ xs)))

  pub takes_nothing : (e : End) → TakesPiece p e [] None []
  takes_nothing Front = (refl, refl)
  takes_nothing Back = (refl, refl)

  -- how many pieces there are
  pub length-put_before : (b : Bool) (x : A) (g : List A) (gs : List (List A))
      → length (put_before p b x (g ∷ gs)) ≡ cond (not b) 1 0 + length (g ∷ gs)
  length-put_before true x g gs = omega arith
  length-put_before false x g gs = omega arith

  pub length-split : (xs : List A) → 0 < length xs → length (split p xs) ≡ refused_pairs p xs + 1
  length-split [] l = absurd (omega arith)
  length-split (x ∷ []) l = refl
  length-split (x ∷ y ∷ ys) l =
      let h = split_begins y ys in
      let n : length (put_before p (p x y) x (split p (y ∷ ys))) ≡ cond (not (p x y)) 1 0 + length (split p (y ∷ ys)) = rw h.is
      (length-put_before (p x y) x (y ∷ h.more) h.others) in
      let m : refused_pairs p (x ∷ y ∷ ys) ≡ cond (not (p x y)) 1 0 + refused_pairs p (y ∷ ys) = sum_by-cons
      (λ q. cond (not (on_pairs p q)) 1 0) (x, y) (neighbours (y ∷ ys)) in
      omega (arith, n, m, length-split (y ∷ ys) (omega arith))

  few_put : (b : Bool) (x y : A) (ys : List A) → length (split p (y ∷ ys)) ≤ length (y ∷ ys)
      → length (put_before p b x (split p (y ∷ ys))) ≤ length (x ∷ y ∷ ys)
  few_put true x y ys few = let h = split_begins y ys in rw h.is (omega (arith, ap length h.is, few))
  few_put false x y ys few = omega (arith, few)

  -- and no more than elements
  pub split_few : (xs : List A) → length (split p xs) ≤ length xs
  split_few [] = omega arith
  split_few (x ∷ []) = omega arith
  split_few (x ∷ y ∷ ys) = few_put (p x y) x y ys (split_few (y ∷ ys))
