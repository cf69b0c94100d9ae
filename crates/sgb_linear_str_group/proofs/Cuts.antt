-- A text that is cut in two between characters, and the remainder of an iterator that is cut so.
use Rattle.std.proofs.Common.{◌≡◌, ℕ, ◌+◌, ◌-◌, ◌<◌, List, ◌++◌, length, take, drop, sym, ap, ◌∙◌, subst, arith, length-append}
use Rattle.sgb_split.specs.Calls.{IsCallableBy, Place, place_after}
use Rattle.std.specs.Str.{chars, IsUtf8, IsCharBoundary}
use Rattle.std.proofs.lemmas.Str.{IsCharBoundary-at_seam}
use Rattle.std.proofs.Math.Seq.{take-append_seam, drop-append_seam}
use Rattle.sgb_split.specs.declared.judge.Judge.{Ghosts}
use Rattle.sgb_split.specs.declared.end.End.{End}
use Rattle.sgb_split.specs.Split.{put_at, AreNeighbours}
use Rattle.sgb_split.specs.declared.end.End.TheVariants.{Front, Back}
use Rattle.sgb_linear_str_group.specs.Texts.{TextGroups, place_or_end, text_between, IsTextAt, in_characters}
use Rattle.sgb_linear_str_group.proofs.Places.{place_or_end_is_place, boundary_test, middle, places, text_after, text_before}

-- a text that is cut in two: the seam lies between characters, with the one part before it and the other after it
module _ (text front back : List ℕ) (cut : text ≡ front ++ back) where
  seam : length front ≡ length text - length back
  seam = omega (arith, ap length cut, length-append front back)

  pub seam_boundary : IsUtf8 back → IsCharBoundary text (length text - length back)
  seam_boundary u = subst (IsCharBoundary text) seam (IsCharBoundary-at_seam text front back cut u)

  pub front_is : (n : ℕ) → n ≡ length text - length back → take n text ≡ front
  front_is n e = ap (λ (n : ℕ). take n text) (e ∙ sym seam) ∙ ap (take (length front)) cut ∙ take-append_seam front back

  pub back_is : drop (length front) text ≡ back
  back_is = ap (drop (length front)) cut ∙ drop-append_seam front back

-- two lists are joined in one way where the first has this length
joined_once : (xs ys zs ws : List ℕ) → xs ++ ys ≡ zs ++ ws → length xs ≡ length zs → (xs ≡ zs) × (ys ≡ ws)
joined_once xs ys zs ws e l = (
  sym (take-append_seam xs ys) ∙ ap (take (length xs)) e ∙ ap (λ (n : ℕ). take n (zs ++ ws)) l ∙ take-append_seam zs ws,
  sym (drop-append_seam xs ys) ∙ ap (drop (length xs)) e ∙ ap (λ (n : ℕ). drop n (zs ++ ws)) l ∙ drop-append_seam zs ws,
)

-- a part of the group's length at the end is the group, and what it leaves is the rest
pub cut_alike : {J : Type 0} (g : Ghosts J ℕ) (e : End) (text group rest : List ℕ) (j k : J)
    → IsTextAt g e (record { text = text; judge = j }) group (record { text = rest; judge = k })
    → (part others : List ℕ) → text ≡ put_at e part others → length part ≡ length group
    → IsTextAt g e (record { text = text; judge = j }) part (record { text = others; judge = k })
cut_alike g Front text group rest j k h part others cut len =
    let same = joined_once part others group rest (sym cut ∙ h.cut) len in
    rw (same.0, same.1) h
cut_alike g Back text group rest j k h part others cut len =
    let same = joined_once others part rest group (sym cut ∙ h.cut)
    (omega (arith, len, ap length cut, ap length h.cut, length-append others part, length-append rest group)) in
    rw (same.0, same.1) h

-- the remainder xs of a writing iterator, read as the text r
module _ {J : Type 0} (g : Ghosts J ℕ) (xs : List ℕ) (j : J) (s : TextGroups J) (view : record { text = xs; judge = j } ≡ s) (r zs : List ℕ)
    (read : r ≡ zs) (same : zs ≡ xs) where
  is_whole : record { text = r; judge = j } ≡ s
  is_whole = ap (λ l. record { text = l; judge = j }) (read ∙ same) ∙ view

  pub callable_whole : IsCallableBy AreNeighbours g (in_characters s)
      → IsCallableBy AreNeighbours g (record { remainder = chars r; judge = j })
  callable_whole may = subst (λ (v : TextGroups J). IsCallableBy AreNeighbours g (in_characters v)) (sym is_whole) may

-- the place of a text at which a remainder begins
abbrev place_in : List ℕ → ℕ → Place ℕ
place_in xs low = record { input = xs; offset = place_or_end xs low }

-- the remainder r of a reading iterator is the part of xs between low and high, and is cut in a group and a rest
module _ {J : Type 0} (g : Ghosts J ℕ) (xs : List ℕ) (low high : ℕ) (r : List ℕ) (same : r ≡ text_between xs low high)
    (j k : J) (group rest : List ℕ) where
  pub front_cut : IsTextAt g Front (record { text = r; judge = j }) group (record { text = rest; judge = k })
      → IsTextAt g Front (record { text = text_between xs low high; judge = j }) group
      (record { text = text_between xs (low + length group) high; judge = k })
  front_cut h =
      let after : text_between xs (low + length group) high ≡ rest =
      text_after xs low high r same (length group) (IsCharBoundary-at_seam r group rest h.cut h.rest_utf8)
      (omega (arith, h.nonempty, ap length h.cut, length-append group rest)) ∙ back_is r group rest h.cut in
      rw (after, ← same) h

  -- a group at the front leaves the place behind it
  pub moved_on : IsTextAt g Front (record { text = r; judge = j }) group (record { text = rest; judge = k })
      → place_in xs (low + length group) ≡ place_after Front (length group) (place_in xs low)
  moved_on h =
      let more : 0 < length r = omega (arith, h.nonempty, ap length h.cut, length-append group rest) in
      let seam = IsCharBoundary-at_seam r group rest h.cut h.rest_utf8 in
      let low_is = place_or_end_is_place xs low (places xs low high r same (length group) seam more).low_is in
      let end_is = place_or_end_is_place xs _ ((boundary_test xs _).1 (middle xs low high r same (length group) seam more)) in
      ap (λ (k : ℕ). record { input = xs; offset = k }) (end_is ∙ ap (λ (k : ℕ). k + length group) (sym low_is))

  pub back_cut : IsTextAt g Back (record { text = r; judge = j }) group (record { text = rest; judge = k })
      → IsTextAt g Back (record { text = text_between xs low high; judge = j }) group
      (record { text = text_between xs low (low + length rest); judge = k })
  back_cut h =
      let before : text_between xs low (low + length rest) ≡ rest =
      text_before xs low high r same (length rest) (IsCharBoundary-at_seam r rest group h.cut h.group_utf8)
      (omega (arith, h.nonempty, ap length h.cut, length-append rest group))
      ∙ ap (take (length rest)) h.cut ∙ take-append_seam rest group in
      rw (before, ← same) h
