-- What a loop over parts has made of the closed groups, and keeps of the open one.
use Rattle.std.proofs.Common.{◌≡◌, ◌≢◌, Bool, true, false, List, [], ◌∷◌, ◌++◌, flat_map, map, refl, subst, sym, ap, ◌∙◌}
use Rattle.std.specs.List.{fold}
use Rattle.std.proofs.lemmas.List.{append-nil, append_assoc}
use Rattle.sgb_split.specs.Split.{last, split, without_last}
use Rattle.sgb_split.proofs.Splits.Split.{split_begins}
use Rattle.slice_group_stream.specs.Streams.{across, as_parts, begins_at, change_last, with_part, with_parts}
use Rattle.slice_group_stream.proofs.FoldedParts.{AllSome}
use Rattle.slice_group_stream.specs.Closing.{open_group, take_part}

module _ {A : Type 0} where
  closed_pushed : (gs : List (List A)) (h : List A) → without_last (gs ++ h ∷ []) ≡ gs
  closed_pushed [] h = refl
  closed_pushed (g ∷ []) h = refl
  closed_pushed (g ∷ k ∷ ks) h = ap (λ l. g ∷ l) (closed_pushed (k ∷ ks) h)

  open_pushed : (gs : List (List A)) (h : List A) → open_group (gs ++ h ∷ []) ≡ h
  open_pushed [] h = refl
  open_pushed (g ∷ []) h = refl
  open_pushed (g ∷ k ∷ ks) h = open_pushed (k ∷ ks) h

  closed_changed : (change : List A → List A) (gs : List (List A)) → without_last (change_last change gs) ≡ without_last gs
  closed_changed change [] = refl
  closed_changed change (g ∷ []) = refl
  closed_changed change (g ∷ k ∷ []) = refl
  closed_changed change (g ∷ k ∷ l ∷ ls) = ap (λ t. g ∷ t) (closed_changed change (k ∷ l ∷ ls))

  open_changed : (change : List A → List A) (g : List A) (gs : List (List A))
      → open_group (change_last change (g ∷ gs)) ≡ change (open_group (g ∷ gs))
  open_changed change g [] = refl
  open_changed change g (k ∷ []) = refl
  open_changed change g (k ∷ l ∷ ls) = open_changed change k (l ∷ ls)

  open_some : (g : List A) (gs : List (List A)) → AllSome (g ∷ gs) → open_group (g ∷ gs) ≢ []
  open_some g [] h = h.0
  open_some g (k ∷ ks) h = open_some k ks h.1

  all_second : (hs : List (List A)) → map (λ x. x.1) (map {B = Bool × List A} (λ h. (true, h)) hs) ≡ hs
  all_second [] = refl
  all_second (h ∷ hs) = ap (λ l. h ∷ l) (all_second hs)

  parts_second : (b : Bool) (hs : List (List A)) → map (λ x. x.1) (as_parts b hs) ≡ hs
  parts_second b [] = refl
  parts_second b (h ∷ hs) = ap (λ l. h ∷ l) (all_second hs)

module _ {A V W : Type 0} (kept : List A → V) (close : V → List W) (none : close (kept []) ≡ []) where
  -- what was made, and what is kept
  abbrev pub so_far : List (List A) → List W × V
  so_far gs = (flat_map (λ g. close (kept g)) (without_last gs), kept (open_group gs))

  pub ends : (gs : List (List A)) → flat_map (λ g. close (kept g)) (without_last gs) ++ close (kept (open_group gs)) ≡ flat_map (λ g. close (kept g)) gs
  ends [] = none
  ends (g ∷ []) = sym (append-nil (close (kept g)))
  ends (g ∷ k ∷ ks) =
      append_assoc (close (kept g)) (flat_map (λ h. close (kept h)) (without_last (k ∷ ks))) (close (kept (open_group (k ∷ ks))))
      ∙ ap (λ l. close (kept g) ++ l) (ends (k ∷ ks))

  module _ (more : V → List A → V) where
    begun : (gs : List (List A)) (part : List A) → take_part kept more close (so_far gs) (true, part) ≡ so_far (gs ++ part ∷ [])
    begun gs part = λ i. (
      (ends gs ∙ ap (flat_map (λ g. close (kept g))) (sym (closed_pushed gs part))) i,
      kept (sym (open_pushed gs part) i),
    )

    all_begun : (gs hs : List (List A))
        → fold (take_part kept more close) (so_far gs) (map (λ h. (true, h)) hs)
        ≡ so_far (with_parts gs (map (λ h. (true, h)) hs))
    all_begun gs [] = refl
    all_begun gs (h ∷ hs) =
        ap (λ s. fold (take_part kept more close) s (map (λ k. (true, k)) hs)) (begun gs h) ∙ all_begun (gs ++ h ∷ []) hs

    module _ (adds : (group part : List A) → group ≢ [] → part ≢ [] → more (kept group) part ≡ kept (group ++ part)) where
      gone_on : (g : List A) (gs : List (List A)) (part : List A) → AllSome (g ∷ gs) → part ≢ []
          → take_part kept more close (so_far (g ∷ gs)) (false, part) ≡ so_far (with_part (g ∷ gs) (false, part))
      gone_on g gs part h n = λ i. (
        flat_map (λ k. close (kept k)) (sym (closed_changed (λ k. k ++ part) (g ∷ gs)) i),
        (adds (open_group (g ∷ gs)) part (open_some g gs h) n ∙ ap kept (sym (open_changed (λ k. k ++ part) g gs))) i,
      )

      one_taken : (gs : List (List A)) (b : Bool) (part : List A) → AllSome gs → part ≢ [] → (gs ≡ [] → b ≡ true)
          → take_part kept more close (so_far gs) (b, part) ≡ so_far (with_part gs (b, part))
      one_taken gs true part h n first = begun gs part
      one_taken [] false part h n first = absurd (cc (first refl))
      one_taken (g ∷ gs) false part h n first = gone_on g gs part h n

      all_taken : (gs : List (List A)) (b : Bool) (hs : List (List A)) → AllSome gs → AllSome hs → (gs ≡ [] → b ≡ true)
          → fold (take_part kept more close) (so_far gs) (as_parts b hs) ≡ so_far (with_parts gs (as_parts b hs))
      all_taken gs b [] h n first = refl
      all_taken gs b (k ∷ ks) h n first =
          ap (λ s. fold (take_part kept more close) s (map (λ l. (true, l)) ks)) (one_taken gs b k h n.0 first)
          ∙ all_begun (with_part gs (b, k)) ks

      -- a group begins with the first part that comes
      pub of_block : (p : A → A → Bool) (before block : List A) (b : Bool) (hs : List (List A)) (parts : List (Bool × List A))
          → parts ≡ as_parts b hs → AllSome (split p before) → AllSome (map (λ x. x.1) parts) → b ≡ begins_at p (across (last before) block)
          → fold (take_part kept more close) (so_far (split p before)) parts ≡ so_far (with_parts (split p before) parts)
      of_block p before block b hs parts are h n begins =
          ap (fold (take_part kept more close) (so_far (split p before))) are
          ∙ all_taken (split p before) b hs h (subst AllSome (ap (map (λ x. x.1)) are ∙ parts_second b hs) n) (first before begins)
          ∙ ap (λ l. so_far (with_parts (split p before) l)) (sym are)
        where
          first : (xs : List A) → b ≡ begins_at p (across (last xs) block) → split p xs ≡ [] → b ≡ true
          first [] is e = is
          first (x ∷ xs) is e = absurd (cc (sym (split_begins p x xs).is ∙ e))
