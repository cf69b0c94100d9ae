-- The parts of blocks make the groups of all.
use Rattle.std.proofs.Common.{◌≡◌, Bool, true, false, not, cond, List, [], ◌∷◌, ◌++◌, map, Option, None, Some}
use Rattle.std.proofs.Common.{refl, sym, ap, ◌∙◌, append_assoc, append-nil}
use Rattle.std.specs.Prelude.{option_map}
use Rattle.std.specs.Iterator.{Yields}
use Rattle.sgb_split.specs.Seams.{is_accepted_across, are_accepted, seam}
use Rattle.sgb_split.specs.Split.{first, last, put_before, split}
use Rattle.sgb_split.proofs.Splits.Joined.{split_joins}
use Rattle.sgb_split.proofs.Splits.Split.{split_begins}
use Rattle.slice_group_stream.specs.declared.parts.Parts.{Parts}
use Rattle.slice_group_stream.specs.Streams.{across, as_parts, begins_at, both, last_after, or_before}
use Rattle.slice_group_stream.specs.Streams.{GivesBlockPart, with_part, with_parts}
use Rattle.slice_group_stream.proofs.Ends.{not_not, first_mapped, last_mapped}

module _ {A : Type 0} where
  pub last_some : (x : A) (xs : List A) → (z : A) × (last (x ∷ xs) ≡ Some z)
  last_some x [] = (x, refl)
  last_some x (y ∷ ys) = last_some y ys

  with_new : (gs hs : List (List A)) → with_parts gs (map (λ h. (true, h)) hs) ≡ gs ++ hs
  with_new gs [] = sym (append-nil gs)
  with_new gs (h ∷ hs) = with_new (gs ++ h ∷ []) hs ∙ append_assoc gs (h ∷ []) hs

  with_part_behind : (b : Bool) (k l h : List A) (ls : List (List A)) → with_part (k ∷ l ∷ ls) (b, h) ≡ k ∷ with_part (l ∷ ls) (b, h)
  with_part_behind true k l h ls = refl
  with_part_behind false k l h ls = refl

  pub with_parts_more : (gs : List (List A)) (parts : List (Bool × List A)) (part : Bool × List A)
      → with_parts gs (parts ++ part ∷ []) ≡ with_part (with_parts gs parts) part
  with_parts_more gs [] part = refl
  with_parts_more gs (x ∷ xs) part = with_parts_more (with_part gs x) xs part

module _ {A : Type 0} (p : A → A → Bool) where
  -- a first piece more, of which it is known whether it goes on with the last piece before
  joined : (b c : Bool) (k h : List A) (hs : List (List A)) → c ≡ not b
      → cond c ((k ++ h) ∷ hs) (k ∷ h ∷ hs) ≡ with_part (k ∷ []) (b, h) ++ hs
  joined true c k h hs e = rw e refl
  joined false c k h hs e = rw e refl

  seam_is : (gs : List (List A)) (g h : List A) (hs : List (List A)) (b : Bool) → last gs ≡ Some g → is_accepted_across p g h ≡ not b
      → seam p gs (h ∷ hs) ≡ with_part gs (b, h) ++ hs
  seam_is [] g h hs b e a = cc e
  seam_is (k ∷ []) g h hs b e a =
      let same : k ≡ g = cc e in joined b (is_accepted_across p k h) k h hs (ap (λ l. is_accepted_across p l h) same ∙ a)
  seam_is (k ∷ l ∷ ls) g h hs b e a =
      ap (λ t. k ∷ t) (seam_is (l ∷ ls) g h hs b e a) ∙ ap (λ t. t ++ hs) (sym (with_part_behind b k l h ls))

  -- the last piece ends with the last element
  put_last : (b : Bool) (x y : A) (more : List A) (others : List (List A)) (g : List A) → last ((y ∷ more) ∷ others) ≡ Some g
      → (k : List A) × (last (put_before p b x ((y ∷ more) ∷ others)) ≡ Some k) × (last k ≡ last g)
  put_last false x y more others g e = (g, e, refl)
  put_last true x y more [] g e = let same : y ∷ more ≡ g = cc e in (x ∷ y ∷ more, refl, ap last same)
  put_last true x y more (o ∷ os) g e = (g, e, refl)

  last_piece : (x : A) (xs : List A) → (g : List A) × (last (split p (x ∷ xs)) ≡ Some g) × (last g ≡ last (x ∷ xs))
  last_piece x [] = (x ∷ [], refl, refl)
  last_piece x (y ∷ ys) =
      let h = split_begins p y ys in
      let l = last_piece y ys in
      let k = put_last (p x y) x y h.more h.others l.0 (ap last (sym h.is) ∙ l.1) in
      (k.0, ap (λ t. last (put_before p (p x y) x t)) h.is ∙ k.1, k.2 ∙ l.2)

  -- the groups with the parts of a block are the groups of all
  pub parts_join : (before block : List A) (b : Bool) → begins_at p (across (last before) block) ≡ b
      → with_parts (split p before) (as_parts b (split p block)) ≡ split p (before ++ block)
  parts_join before [] b e = ap (split p) (sym (append-nil before))
  parts_join [] (y ∷ ys) b e =
      let h = split_begins p y ys in
      rw (← e, h.is) (with_new ((y ∷ h.more) ∷ []) h.others)
  parts_join (x ∷ xs) (y ∷ ys) b e =
      let h = split_begins p y ys in
      let g = last_piece x xs in
      let z = last_some x xs in
      let test : not (p z.0 y) ≡ b = ap (λ o. begins_at p (both o (Some y))) (sym z.1) ∙ e in
      let accepted : is_accepted_across p g.0 (y ∷ h.more) ≡ not b =
      ap (λ o. are_accepted p o (Some y)) (g.2 ∙ z.1) ∙ sym (not_not (p z.0 y)) ∙ ap not test in
      ap (λ t. with_parts (split p (x ∷ xs)) (as_parts b t)) h.is
      ∙ with_new (with_part (split p (x ∷ xs)) (b, y ∷ h.more)) h.others
      ∙ sym (seam_is (split p (x ∷ xs)) g.0 (y ∷ h.more) h.others b g.1 accepted)
      ∙ ap (seam p (split p (x ∷ xs))) (sym h.is) ∙ sym (split_joins p (x ∷ xs) (y ∷ ys))

-- what calls give
module _ {I X A : Type 0} (gives : I → Option X → I → Type 0) (shows : X → List A) where
  pub yields_under : (s t : Parts I) (parts : List (Bool × X)) → Yields (GivesBlockPart gives) s parts t
      → Yields gives s.groups (map (λ x. x.1) parts) t.groups
  yields_under s t [] y = ap (λ (q : Parts I). q.groups) y
  yields_under s t (x ∷ xs) y = (y.0.groups, y.1.0, yields_under y.0 t xs y.2)

  all_begin : (s t : Parts I) (parts : List (Bool × X)) → s.begins ≡ true → Yields (GivesBlockPart gives) s parts t
      → map (λ x. (x.0, shows x.1)) parts ≡ map {B = Bool × List A} (λ h. (true, h)) (map shows (map (λ x. x.1) parts))
  all_begin s t [] b y = refl
  all_begin s t (x ∷ xs) b y =
      ap (λ l. (x.0, shows x.1) ∷ l) (all_begin y.0 t xs y.1.1.1 y.2)
      ∙ ap (λ f. (f, shows x.1) ∷ map {B = Bool × List A} (λ h. (true, h)) (map shows (map (λ z. z.1) xs))) (y.1.1.0 ∙ b)

  pub flags : (s t : Parts I) (parts : List (Bool × X)) → Yields (GivesBlockPart gives) s parts t
      → map (λ x. (x.0, shows x.1)) parts ≡ as_parts s.begins (map shows (map (λ x. x.1) parts))
  flags s t [] y = refl
  flags s t (x ∷ xs) y =
      ap (λ l. (x.0, shows x.1) ∷ l) (all_begin y.0 t xs y.1.1.1 y.2)
      ∙ ap (λ f. (f, shows x.1) ∷ map {B = Bool × List A} (λ h. (true, h)) (map shows (map (λ z. z.1) xs))) y.1.1.0

  pub shown_alone : (parts : List (Bool × X)) → map (λ x. shows x.1) parts ≡ map shows (map (λ x. x.1) parts)
  shown_alone [] = refl
  shown_alone (x ∷ xs) = ap (λ l. shows x.1 ∷ l) (shown_alone xs)

-- what is kept
module _ {A : Type 0} where
  or_last : (x : A) (xs : List A) (before : Option A) → or_before (last (x ∷ xs)) before ≡ last (x ∷ xs)
  or_last x xs before = let z = last_some x xs in rw z.1 refl

  pub last_kept : (before block : List A) → last (before ++ block) ≡ last_after (last before) block
  last_kept before [] = ap last (append-nil before)
  last_kept [] (y ∷ ys) = sym (or_last y ys None)
  last_kept (x ∷ []) (y ∷ ys) = sym (or_last y ys (Some x))
  last_kept (x ∷ z ∷ zs) (y ∷ ys) = last_kept (z ∷ zs) (y ∷ ys)

-- by a key
module _ {A K : Type 0} (k : A → K) where
  or_mapped : (x y : Option A) → or_before (option_map k x) (option_map k y) ≡ option_map k (or_before x y)
  or_mapped None y = refl
  or_mapped (Some x) y = refl

  pub keys_kept : (before block : List A) → last_after (option_map k (last before)) (map k block) ≡ option_map k (last (before ++ block))
  keys_kept before block =
      ap (λ o. or_before o (option_map k (last before))) (last_mapped k block) ∙ or_mapped (last block) (last before)
      ∙ ap (option_map k) (sym (last_kept before block))

  both_mapped : (eq : K → K → Bool) (x y : Option A)
      → begins_at eq (both (option_map k x) (option_map k y)) ≡ begins_at (λ a b. eq (k a) (k b)) (both x y)
  both_mapped eq None None = refl
  both_mapped eq None (Some y) = refl
  both_mapped eq (Some x) None = refl
  both_mapped eq (Some x) (Some y) = refl

  pub keys_begin : (eq : K → K → Bool) (before : Option A) (block : List A)
      → begins_at eq (across (option_map k before) (map k block)) ≡ begins_at (λ a b. eq (k a) (k b)) (across before block)
  keys_begin eq before block =
      ap (λ o. begins_at eq (both (option_map k before) o)) (first_mapped k block) ∙ both_mapped eq before (first block)
