-- The places of a text that lie between characters.
use Rattle.std.proofs.Common.{◌≡◌, ℕ, ◌+◌, ◌-◌, ◌<◌, ◌≤◌, Bool, true, false, cond, List}
use Rattle.std.proofs.Common.{length, get_or, take, drop, Decides, refl, sym, ap, ◌∙◌, subst, arith}
use lib.Dec.{T, leb, leb→le}
use Rattle.std.specs.Prelude.{slice_range}
use Rattle.std.specs.Str.{IsUtf8, IsCharBoundary}
use Rattle.std.proofs.lemmas.Bool.{leb-false}
use Rattle.std.proofs.lemmas.Bool.Decides.{nat_tests}
use Rattle.std.proofs.lemmas.List.{get_or_past, get_or-drop, get_or-take, length-drop, length-take-le}
use Rattle.std.proofs.lemmas.Str.{IsCharBoundary-start, IsCharBoundary-end, IsCharBoundary-from_rest, IsCharBoundary-from_take}
use Rattle.std.proofs.lemmas.Str.{IsUtf8-drop}
use Rattle.sgb_split.specs.Calls.{StandsAt}
use Rattle.sgb_split.proofs.Lists.Between.{ArePlaces, between_ends, are_places, is_range, ends_at, part_before, part_after}
use Rattle.sgb_linear_str_group.specs.Texts.{place_or_end, lies_between_characters, text_between}

pub boundary_test : (text : List ℕ) (place : ℕ) → Decides (lies_between_characters text place) (IsCharBoundary text place)
boundary_test text place =
    let past = get_or_past text place 0 in
    (λ e. (grind (arith, nat_tests), λ l h. grind (arith, nat_tests)), λ b. grind (arith, nat_tests))

-- whether a place lies between characters is seen in the text up to a later place
module _ (text front : List ℕ) (low high : ℕ) (order : low < high) (within : high ≤ length text)
    (is : front ≡ slice_range text 0 high) where
  front_is : front ≡ take high text
  front_is = is ∙ ap (λ (n : ℕ). take n text) (omega arith)

  front_len : length front ≡ high
  front_len = ap length front_is ∙ length-take-le high text within

  same_byte : get_or front low 0 ≡ get_or text low 0
  same_byte = ap (λ (xs : List ℕ). get_or xs low 0) front_is ∙ get_or-take high text low 0 order

  pub boundary_of_text : IsCharBoundary front low → IsCharBoundary text low
  boundary_of_text b = (omega (arith, order, within), λ l. rw same_byte at (b.1 (omega (arith, front_len, order))))

  pub boundary_of_front : IsCharBoundary text low → IsCharBoundary front low
  boundary_of_front b = (omega (arith, front_len, order), λ l. rw (← same_byte) at (b.1 (omega (arith, order, within))))

-- such a place lies in the text or at its end
pub place_within : (text : List ℕ) (n : ℕ) → lies_between_characters text n ≡ true → n ≤ length text
place_within text n e = ((boundary_test text n).0 e).0

module _ (text : List ℕ) (place : ℕ) where
  pub place_or_end_is_boundary : IsCharBoundary text (place_or_end text place)
  place_or_end_is_boundary = by (lies_between_characters text place) refl
    where
      by : (t : Bool) → lies_between_characters text place ≡ t → IsCharBoundary text (cond t place (length text))
      by true e = (boundary_test text place).0 e
      by false e = IsCharBoundary-end text

  pub place_or_end_is_place : lies_between_characters text place ≡ true → place_or_end text place ≡ place
  place_or_end_is_place e = ap (λ t. cond t place (length text)) e

-- a part of a text that is UTF-8 begins and ends between characters
pub part_is_between : (text part : List ℕ) (start : ℕ) → IsUtf8 text → IsUtf8 part → 0 < length part
    → StandsAt (record { input = text; offset = start }) part → IsCharBoundary text start × IsCharBoundary text (start + length part)
part_is_between text part start u part_u some stands =
    let rest = drop start text in
    let front : take (length part) rest ≡ part =
    ap (λ (n : ℕ). take n rest) {x = length part} {y = (start + length part) - start} (omega arith) ∙ stands.is in
    let byte : get_or part 0 0 ≡ get_or text start 0 =
    ap (λ (l : List ℕ). get_or l 0 0) (sym front) ∙ get_or-take (length part) rest 0 0 some ∙ get_or-drop start text 0 0
    ∙ ap (λ (k : ℕ). get_or text k 0) {x = start + 0} {y = start} (omega arith) in
    let start_is : IsCharBoundary text start =
    (omega (arith, stands.within), λ l h. rw byte at ((IsCharBoundary-start part part_u).1 some (rw (← byte) at h))) in (
      start_is,
      IsCharBoundary-from_rest text start (length part) start_is.0 (IsCharBoundary-from_take rest (length part)
          (IsUtf8-drop text start u start_is) (omega (arith, stands.within, length-drop start text)) (rw front part_u)),
    )

-- a text is the part between its ends
pub text_ends : (text : List ℕ) → IsUtf8 text → text_between text 0 (length text) ≡ text
text_ends text u =
    between_ends (lies_between_characters text) text ((boundary_test text 0).1 (IsCharBoundary-start text u))
    ((boundary_test text _).1 (IsCharBoundary-end text))

-- the part r between two places, which is not empty, is cut at its place n, between characters
module _ (text : List ℕ) (low high : ℕ) (r : List ℕ) (is : r ≡ text_between text low high) (n : ℕ)
    (b : IsCharBoundary r n) (more : 0 < length r) where
  ends : low + length r ≡ high
  ends = ends_at (lies_between_characters text) text (place_within text) low high r is more

  pub places : ArePlaces (lies_between_characters text) low high
  places = are_places (lies_between_characters text) text (place_within text) low high r is more

  byte : n < length r → get_or r n 0 ≡ get_or text (low + n) 0
  byte l =
      ap (λ (l : List ℕ). get_or l n 0) (is_range (lies_between_characters text) text (place_within text) low high r is more)
      ∙ get_or-take (high - low) (drop low text) n 0 (omega (arith, ends)) ∙ get_or-drop low text n 0

  pub middle : IsCharBoundary text (low + n)
  middle = by (leb (length r) n) refl
    where
      by : (t : Bool) → leb (length r) n ≡ t → IsCharBoundary text (low + n)
      by true e =
          subst (IsCharBoundary text) {x = high} {y = low + n}
          (omega (arith, leb→le (length r) n (subst T (sym e) tt), b.0, ends)) ((boundary_test text high).0 places.high_is)
      by false e =
          let l : n < length r = leb-false (length r) n e in
          (omega (arith, l, ends, place_within text high places.high_is), λ _ a. omega (arith, b.1 l (omega (arith, byte l)), byte l))

  pub text_before : text_between text low (low + n) ≡ take n r
  text_before =
      part_before (lies_between_characters text) text (place_within text) low high r is more n b.0 ((boundary_test text _).1 middle)

  pub text_after : text_between text (low + n) high ≡ drop n r
  text_after =
      part_after (lies_between_characters text) text (place_within text) low high r is more n b.0 ((boundary_test text _).1 middle)
