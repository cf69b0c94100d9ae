-- A cut where a group begins: the parts have the groups of the whole.
use Rattle.std.proofs.Common.{◌≡◌, ℕ, zero, suc, ◌+◌, ◌-◌, ◌<◌, ◌≤◌, Bool, true, false, cond, List, [], ◌∷◌, ◌++◌, length, take, drop, Some}
use Rattle.std.proofs.Common.{refl, sym, ap, subst, ◌∙◌, arith, append_assoc}
use Rattle.std.specs.Prelude.{◌≢◌, slice_range}
use lib.Dec.{T, leb, leb→le}
use Rattle.std.proofs.lemmas.Bool.{leb-false}
use Rattle.std.proofs.lemmas.List.{append-nil, length-append, take-append-drop, take_at, drop_at, take_all, drop-drop, length-take-le, length-drop}
use Rattle.std.proofs.Math.Seq.{take-add}
use Rattle.std.proofs.Math.ListN.{drop_of_length-le}
use Rattle.sgb_split.specs.Split.{IsAccepted, IsSplit, concat, first, put_before, split}
use Rattle.sgb_split.specs.Seams.{is_accepted_across}
use Rattle.sgb_split.proofs.Splits.Joined.{joined_count, piece_alone}
use Rattle.sgb_split.proofs.Splits.Split.{refused_after, split_begins, split_is, split_only}
use Rattle.sgb_split.specs.Calls.{Groups, IsGroupAt}
use Rattle.sgb_split.specs.declared.end.End.TheVariants.{Front}
use Rattle.sgb_split.specs.declared.judge.Judge
use Rattle.sgb_groups.specs.declared.way.Way
use Rattle.sgb_groups.specs.Boundaries.{PartsAt}

module _ {A : Type 0} (p : A → A → Bool) where
  -- the first piece, and the others
  pub after_piece : (xs g rest : List A) → split p xs ≡ g ∷ split p rest → IsAccepted p (take (length g) xs) × PartsAt p xs (length g)
  after_piece xs g rest e =
      let s : IsSplit p xs (g ∷ split p rest) = subst (IsSplit p xs) e (split_is p xs) in
      let is : xs ≡ g ++ rest = sym s.covers ∙ ap (λ l. g ++ l) (split_is p rest).covers in
      let at : take (length g) xs ≡ g = ap (take (length g)) is ∙ take_at g rest (length g) refl in
      let on : drop (length g) xs ≡ rest = ap (drop (length g)) is ∙ drop_at g rest (length g) refl in (
        subst (IsAccepted p) (sym at) s.accepted.0,
        rw (at, on) (e ∙ ap (λ gs. gs ++ split p rest) (sym (piece_alone p g s.nonempty.0 s.accepted.0))),
      )

  put_before_parts : (b : Bool) (x : A) (g : List A) (gs hs : List (List A))
      → put_before p b x ((g ∷ gs) ++ hs) ≡ put_before p b x (g ∷ gs) ++ hs
  put_before_parts true x g gs hs = refl
  put_before_parts false x g gs hs = refl

  -- an element more before both parts
  parts_behind_one : (x y : A) (ys zs : List A) → split p ((y ∷ ys) ++ zs) ≡ split p (y ∷ ys) ++ split p zs
      → split p (x ∷ ((y ∷ ys) ++ zs)) ≡ split p (x ∷ y ∷ ys) ++ split p zs
  parts_behind_one x y ys zs e =
      let h = split_begins p y ys in
      ap (put_before p (p x y) x) e ∙ rw h.is (put_before_parts (p x y) x (y ∷ h.more) h.others (split p zs))

  -- and a list more
  parts_behind : (before : List A) (y : A) (ys zs : List A) → split p ((y ∷ ys) ++ zs) ≡ split p (y ∷ ys) ++ split p zs
      → split p (before ++ ((y ∷ ys) ++ zs)) ≡ split p (before ++ (y ∷ ys)) ++ split p zs
  parts_behind [] y ys zs e = e
  parts_behind (x ∷ []) y ys zs e = parts_behind_one x y ys zs e
  parts_behind (x ∷ w ∷ ws) y ys zs e =
      let more = parts_behind (w ∷ ws) y ys zs e in
      let assoc : ws ++ ((y ∷ ys) ++ zs) ≡ (ws ++ (y ∷ ys)) ++ zs = sym (append_assoc ws (y ∷ ys) zs) in
      ap (λ l. split p (x ∷ w ∷ l)) assoc
      ∙ parts_behind_one x w (ws ++ (y ∷ ys)) zs (ap (λ l. split p (w ∷ l)) (sym assoc) ∙ more)

  from_parts : (xs before part after : List A) → xs ≡ before ++ (part ++ after) → part ≢ []
      → split p (part ++ after) ≡ split p part ++ split p after → split p xs ≡ split p (before ++ part) ++ split p after
  from_parts xs before [] after is n e = absurd (n refl)
  from_parts xs before (y ∷ ys) after is n e = ap (split p) is ∙ parts_behind before y ys after e

  -- what holds of the elements from a place on holds of all
  pub parts_of_all : (xs : List A) (a n : ℕ) → n ≤ length (drop a xs) → (drop a xs ≢ [] → 0 < n) → PartsAt p (drop a xs) n
      → PartsAt p xs (a + n)
  parts_of_all xs a n room some e = by (drop a xs) refl
    where
      whole : length xs ≤ a + n → PartsAt p xs (a + n)
      whole l =
          rw (take_all (a + n) xs l, drop_of_length-le xs l) (sym (append-nil (split p xs)))

      by : (rest : List A) → drop a xs ≡ rest → PartsAt p xs (a + n)
      by [] none = whole (omega (arith, ap length none, length-drop a xs))
      by (y ∷ ys) is =
          let more : 0 < n = some (λ none. cc (is, none)) in
          let at : take (a + n) xs ≡ take a xs ++ take n (drop a xs) = take-add a n xs in
          let on : drop (a + n) xs ≡ drop n (drop a xs) = sym (drop-drop n a xs) in
          rw (at, on) (from_parts xs (take a xs) (take n (drop a xs)) (drop n (drop a xs))
          (sym (take-append-drop a xs) ∙ ap (λ l. take a xs ++ l) (sym (take-append-drop n (drop a xs))))
          (λ none. omega (arith, more, ap length none, length-take-le n (drop a xs) room))
          (ap (split p) (take-append-drop n (drop a xs)) ∙ e))

  -- a cut inside an accepted part is accepted across
  across_front : (xs : List A) (n b : ℕ) → 0 < n → n < b → b ≤ length xs → IsAccepted p (take b xs)
      → is_accepted_across p (take n xs) (drop n xs) ≡ true
  across_front xs zero b some l r h = absurd (omega arith)
  across_front [] (suc n) b some l r h = absurd (omega arith)
  across_front (x ∷ []) (suc n) b some l r h = absurd (omega arith)
  across_front (x ∷ y ∷ ys) (suc n) zero some l r h = absurd (omega arith)
  across_front (x ∷ y ∷ ys) (suc n) (suc zero) some l r h = absurd (omega arith)
  across_front (x ∷ y ∷ ys) (suc zero) (suc (suc b)) some l r h = h.0
  across_front (x ∷ y ∷ ys) (suc (suc n)) (suc (suc b)) some l r h =
      across_front (y ∷ ys) (suc n) (suc b) (omega arith) (omega arith) (omega arith) h.1

  across_inside : (xs : List A) (a n b : ℕ) → a < n → n < b → b ≤ length xs → IsAccepted p (slice_range xs a b)
      → is_accepted_across p (take n xs) (drop n xs) ≡ true
  across_inside xs zero n b some l r h =
      across_front xs n b some l r (subst (λ (k : ℕ). IsAccepted p (take k xs)) {x = b - 0} {y = b} (omega arith) h)
  across_inside [] (suc a) n b some l r h = absurd (omega arith)
  across_inside (x ∷ []) (suc a) n b some l r h = absurd (omega arith)
  across_inside (x ∷ y ∷ ys) (suc a) zero b some l r h = absurd (omega arith)
  across_inside (x ∷ y ∷ ys) (suc a) (suc zero) b some l r h = absurd (omega arith)
  across_inside (x ∷ y ∷ ys) (suc a) (suc (suc n)) zero some l r h = absurd (omega arith)
  across_inside (x ∷ y ∷ ys) (suc a) (suc (suc n)) (suc b) some l r h =
      across_inside (y ∷ ys) a (suc n) b (omega arith) (omega arith) (omega arith)
      (subst (λ (k : ℕ). IsAccepted p (take k (drop a (y ∷ ys)))) {x = suc b - suc a} {y = b - a} (omega arith) h)

  -- so the parts there have a group more than the whole
  no_parts_inside : (xs : List A) (a n b : ℕ) → a < n → n < b → b ≤ length xs → IsAccepted p (slice_range xs a b) → PartsAt p xs n → ⊥
  no_parts_inside xs a n b some l r h parts =
      let one : ◌≡◌ {A = ℕ} (cond (is_accepted_across p (take n xs) (drop n xs)) 1 0) 1 = ap (λ c. cond c 1 0) (across_inside xs a n b some l r h) in
      let all = ap (λ l. length (split p l)) (take-append-drop n xs) ∙ ap length parts ∙ length-append (split p (take n xs)) (split p (drop n xs)) in
      omega (arith, one, all, joined_count p (take n xs) (drop n xs))

  -- the first piece, and what the others are the split of
  record HasFirst (xs : List A) : Type 0 where
    piece : List A
    rest : List A
    some : 0 < length piece
    covers : xs ≡ piece ++ rest
    is : split p xs ≡ piece ∷ split p rest

  has_first : (xs : List A) → 0 < length xs → HasFirst xs
  has_first [] some = absurd (omega (arith, some))
  has_first (x ∷ xs) some =
      let h = split_begins p x xs in
      let w = h.whole in
      let others : IsSplit p (concat h.others) h.others = record {
        covers = refl;
        nonempty = w.nonempty.1;
        accepted = w.accepted.1;
        refused = refused_after p (x ∷ h.more) h.others w.refused;
      } in
      record {
        piece = x ∷ h.more;
        rest = concat h.others;
        some = omega arith;
        covers = sym w.covers;
        is = h.is ∙ ap (λ gs. (x ∷ h.more) ∷ gs) (split_only p (concat h.others) h.others others);
      }

  abbrev pub front_len : List (List A) → ℕ
  front_len [] = 0
  front_len (g ∷ gs) = length g

  pub front_is : (gs : List (List A)) (g : List A) → Some g ≡ first gs → front_len gs ≡ length g
  front_is [] g e = cc e
  front_is (h ∷ hs) g e = let same : g ≡ h = cc e in sym (ap length same)

  -- where the group ends of the element at this place
  abbrev pub group_end : List A → ℕ → ℕ
  group_end xs place = place + front_len (split p (drop place xs))

  pub record EndsGroup (xs : List A) (place n : ℕ) : Type 0 where
    pub behind : place < n
    pub within : n ≤ length xs
    pub inside : IsAccepted p (slice_range xs place n)
    pub parts : PartsAt p xs n

  pub ends_group : (xs : List A) (place : ℕ) → place < length xs → EndsGroup xs place (group_end xs place)
  ends_group xs place at =
      let h = has_first (drop place xs) (omega (arith, length-drop place xs)) in
      let n : front_len (split p (drop place xs)) ≡ length h.piece = ap front_len h.is in
      let long : length h.piece ≤ length (drop place xs) = omega (arith, ap length h.covers, length-append h.piece h.rest) in
      let cut = after_piece (drop place xs) h.piece h.rest h.is in
      rw n (record {
        behind = omega (arith, h.some);
        within = omega (arith, long, length-drop place xs);
        inside =
            subst (λ (k : ℕ). IsAccepted p (take k (drop place xs))) {x = length h.piece} {y = place + length h.piece - place}
            (omega arith) cut.0;
        parts = parts_of_all xs place (length h.piece) long (λ some. h.some) cut.1;
      })

  -- and it is the first place behind that one where a group begins
  pub no_sooner : (xs : List A) (place n : ℕ) → EndsGroup xs place n → (m : ℕ) → place < m → PartsAt p xs m → n ≤ m
  no_sooner xs place n ends m behind parts = by (leb n m) refl
    where
      by : (t : Bool) → leb n m ≡ t → n ≤ m
      by true e = leb→le n m (subst T (sym e) tt)
      by false e =
          absurd (no_parts_inside xs place m n behind (leb-false n m e) ends.within ends.inside parts)

-- of groups that are settled: a call that begins at a place ends where the group of the element there does
module _ {T J W : Type 0} (w : Way.Ghosts W) (j : Judge.Ghosts J T) (p : T → T → Bool) where
  pub ends_at : (place : ℕ) (s : Groups T J) (group : List T) (t : Groups T J)
      → IsGroupAt (w.asks T J j) Front (record { remainder = drop place s.remainder; judge = s.judge }) group t → w.settled T J j s p
      → (group_end p s.remainder place ≡ place + length group) × w.settled T J j t p
  ends_at place s group t call settled =
      let xs = s.remainder in
      let whole = subst (λ l. w.settled T J j (record { remainder = l; judge = s.judge }) p) (sym (take-append-drop place xs)) settled in
      let k = w.piece T J j Front _ (Some group) t p call (w.settled_behind T J j (take place xs) (drop place xs) s.judge p whole) in
      (ap (λ (n : ℕ). place + n) (front_is p (split p (drop place xs)) group k.0.0), k.1)

  pub ends_group_at : (place : ℕ) (s : Groups T J) (group : List T) (t : Groups T J) → place < length s.remainder
      → IsGroupAt (w.asks T J j) Front (record { remainder = drop place s.remainder; judge = s.judge }) group t → w.settled T J j s p
      → EndsGroup p s.remainder place (place + length group)
  ends_group_at place s group t at call settled =
      subst (EndsGroup p s.remainder place) (ends_at place s group t call settled).0 (ends_group p s.remainder place at)
