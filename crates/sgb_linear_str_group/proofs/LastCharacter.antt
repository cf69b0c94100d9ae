-- The last character of a text, read from its last byte on.
use Rattle.std.proofs.Common.{◌≡◌, ℕ, ◌+◌, ◌-◌, ◌*◌, ◌/◌, ◌%◌, ◌<◌, ◌≤◌, inl, inr, Bool, true, false, cond, ◌&&◌}
use Rattle.std.proofs.Common.{List, [], ◌∷◌, ◌++◌, length, take, get_or, refl, sym, ap, ◌∙◌, subst, arith, append_assoc, length-append}
use lib.Dec.{T, ltb, ltb→lt}
use Rattle.std.specs.Str.{IsUtf8, IsCharBoundary, encode_utf8_all, all_scalars}
use Rattle.std.specs.Char.{encode_utf8, IsScalar}
use Rattle.std.proofs.lemmas.Bool.{ltb-false}
use Rattle.std.proofs.Math.Utf8.{scalar_cases}
use Rattle.std.proofs.lemmas.List.{append-nil, get_or-append-add}
use Rattle.std.proofs.lemmas.Str.{IsCharBoundary-at_seam, IsUtf8-encode}
use Rattle.std.proofs.Math.Seq.{take-append_seam}

-- the text ends with this character, which begins at the place
abbrev pub EndsWith : List ℕ → ℕ → ℕ → Type 0
EndsWith text place character =
    record { scalar : IsScalar character; boundary : IsCharBoundary text place; is : text ≡ take place text ++ encode_utf8 character }

-- the text ends with a character
pub record Ends (text : List ℕ) : Type 0 where
  pub before : List ℕ
  pub character : ℕ
  pub scalar : IsScalar character
  pub is : text ≡ before ++ encode_utf8 character

pub both : (a b : Bool) → (a && b) ≡ true → (a ≡ true) × (b ≡ true)
both true b e = (refl, e)
both false b e = absurd (cc e)

-- some characters, written out, end with the last of them
ends_all : (c : ℕ) (cs : List ℕ) → all_scalars (c ∷ cs) ≡ true → Ends (encode_utf8_all (c ∷ cs))
ends_all c [] s =
    record { before = []; character = c; scalar = (both _ _ s).0; is = append-nil (encode_utf8 c) }
ends_all c (d ∷ ds) s =
    let e = ends_all d ds (both _ _ s).1 in
    record {
      before = encode_utf8 c ++ e.before;
      character = e.character;
      scalar = e.scalar;
      is = ap (λ l. encode_utf8 c ++ l) e.is ∙ sym (append_assoc (encode_utf8 c) e.before (encode_utf8 e.character));
    }

pub ends : (text : List ℕ) → IsUtf8 text → 0 < length text → Ends text
ends text ([], e) l = absurd (omega (arith, ap length e.1))
ends text (c ∷ cs, e) l = subst Ends e.1 (ends_all c cs e.0)

module _ (text : List ℕ) where
  -- the bytes, counted from the end
  abbrev pub byte : ℕ → ℕ
  byte n = get_or text (length text - n) 0

  -- what the last bytes say: up to the first that begins a character, each of the others holds six bits of it
  pub record LastBytes : Type 0 where
    pub one : byte 1 < 128 → EndsWith text (length text - 1) (byte 1)
    pub more : 128 ≤ byte 1 → 2 ≤ length text
    pub two : 128 ≤ byte 1 → 192 ≤ byte 2 → EndsWith text (length text - 2) (byte 2 % 32 * 64 + byte 1 % 64)
    pub more_than_two : 128 ≤ byte 1 → byte 2 < 192 → 3 ≤ length text
    pub three : 128 ≤ byte 1 → byte 2 < 192 → 192 ≤ byte 3
        → EndsWith text (length text - 3) (byte 3 % 16 * 4096 + byte 2 % 64 * 64 + byte 1 % 64)
    pub more_than_three : 128 ≤ byte 1 → byte 2 < 192 → byte 3 < 192 → 4 ≤ length text
    pub four : 128 ≤ byte 1 → byte 2 < 192 → byte 3 < 192
        → EndsWith text (length text - 4) (byte 4 % 8 * 262144 + byte 3 % 64 * 4096 + byte 2 % 64 * 64 + byte 1 % 64)

  module _ (e : Ends text) where
    -- the character has the bytes es
    module _ (es : List ℕ) (spelt : encode_utf8 e.character ≡ es) where
      whole : text ≡ e.before ++ es
      whole = e.is ∙ ap (λ l. e.before ++ l) spelt

      size : length text ≡ length e.before + length es
      size = ap length whole ∙ length-append e.before es

      at_end : (n i : ℕ) → i + n ≡ length es → byte n ≡ get_or es i 0
      at_end n i h =
          ap (λ l. get_or l (length text - n) 0) whole
          ∙ ap (λ (m : ℕ). get_or (e.before ++ es) m 0) {x = length text - n} {y = length e.before + i} (omega (arith, size))
          ∙ get_or-append-add e.before es i 0

      ends_with : (n code : ℕ) → n ≡ length es → code ≡ e.character → EndsWith text (length text - n) code
      ends_with n code h same =
          let place : length e.before ≡ length text - n = omega (arith, size) in
          rw (← place, same) record {
            scalar = e.scalar;
            boundary = IsCharBoundary-at_seam text e.before (encode_utf8 e.character) e.is (IsUtf8-encode e.character e.scalar);
            is =
                let front : take (length e.before) text ≡ e.before = ap (take (length e.before)) e.is ∙ take-append_seam e.before _ in
                e.is ∙ ap (λ l. l ++ encode_utf8 e.character) (sym front);
          }

    -- by how many bytes the character has
    by_width : (x y z : Bool) → ltb e.character 128 ≡ x → ltb e.character 2048 ≡ y → ltb e.character 65536 ≡ z
        → encode_utf8 e.character ≡ cond x (e.character ∷ []) (cond y ((192 + e.character / 64) ∷ (128 + e.character % 64) ∷ [])
        (cond z ((224 + e.character / 4096) ∷ (128 + e.character / 64 % 64) ∷ (128 + e.character % 64) ∷ [])
        ((240 + e.character / 262144) ∷ (128 + e.character / 4096 % 64) ∷ (128 + e.character / 64 % 64) ∷ (128 + e.character % 64) ∷ [])))
        → LastBytes
    by_width true y z f g h s =
        let below : e.character < 128 = ltb→lt e.character 128 (subst T (sym f) tt) in
        let first = at_end _ s 1 0 refl in
        record {
          one = λ _. ends_with _ s 1 _ refl first;
          more = λ h. absurd (omega (arith, below, first));
          two = λ h _. absurd (omega (arith, below, first));
          more_than_two = λ h _. absurd (omega (arith, below, first));
          three = λ h _ _. absurd (omega (arith, below, first));
          more_than_three = λ h _ _. absurd (omega (arith, below, first));
          four = λ h _ _. absurd (omega (arith, below, first));
        }
    by_width false true z f g h s =
        let above : 128 ≤ e.character = ltb-false e.character 128 f in
        let below : e.character < 2048 = ltb→lt e.character 2048 (subst T (sym g) tt) in
        let first = at_end _ s 2 0 refl in
        let second = at_end _ s 1 1 refl in
        record {
          one = λ h. absurd (omega (arith, second));
          more = λ _. omega (arith, size _ s);
          two = λ _ _. ends_with _ s 2 _ refl (omega (arith, above, below, first, second));
          more_than_two = λ _ h. absurd (omega (arith, first));
          three = λ _ h _. absurd (omega (arith, first));
          more_than_three = λ _ h _. absurd (omega (arith, first));
          four = λ _ h _. absurd (omega (arith, first));
        }
    by_width false false true f g h s =
        let above : 2048 ≤ e.character = ltb-false e.character 2048 g in
        let below : e.character < 65536 = ltb→lt e.character 65536 (subst T (sym h) tt) in
        let first = at_end _ s 3 0 refl in
        let second = at_end _ s 2 1 refl in
        let third = at_end _ s 1 2 refl in
        record {
          one = λ h. absurd (omega (arith, third));
          more = λ _. omega (arith, size _ s);
          two = λ _ h. absurd (omega (arith, second));
          more_than_two = λ _ _. omega (arith, size _ s);
          three = λ _ _ _. ends_with _ s 3 _ refl (omega (arith, above, below, first, second, third));
          more_than_three = λ _ _ h. absurd (omega (arith, first));
          four = λ _ _ h. absurd (omega (arith, first));
        }
    by_width false false false f g h s =
        let above : 65536 ≤ e.character = ltb-false e.character 65536 h in
        let below : e.character < 1114112 = elim (scalar_cases e.character e.scalar) [ inl l ↦ omega (arith, l) | inr r ↦ r.1 ] in
        let first = at_end _ s 4 0 refl in
        let second = at_end _ s 3 1 refl in
        let third = at_end _ s 2 2 refl in
        let fourth = at_end _ s 1 3 refl in
        record {
          one = λ h. absurd (omega (arith, fourth));
          more = λ _. omega (arith, size _ s);
          two = λ _ h. absurd (omega (arith, third));
          more_than_two = λ _ _. omega (arith, size _ s);
          three = λ _ _ h. absurd (omega (arith, second));
          more_than_three = λ _ _ _. omega (arith, size _ s);
          four = λ _ _ _. ends_with _ s 4 _ refl (omega (arith, above, below, first, second, third, fourth));
        }

    spelt : LastBytes
    unfolding encode_utf8
    spelt = by_width _ _ _ refl refl refl refl

-- what the last bytes of a text say of its last character
pub last_bytes : (text : List ℕ) → IsUtf8 text → 0 < length text → LastBytes text
last_bytes text u l = spelt text (ends text u l)
