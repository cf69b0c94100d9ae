-- A scan of a text's characters from an end, question by question.
use Rattle.std.proofs.Common.{◌≡◌, ℕ, ◌+◌, ◌<◌, true, false, List, [], ◌∷◌, ◌++◌, length}
use Rattle.std.proofs.Common.{take, drop, refl, sym, ap, ◌∙◌, subst, arith, append_assoc, length-append}
use Rattle.sgb_split.specs.Calls.{IsCallableBy}
use Rattle.std.specs.Str.{chars, IsUtf8}
use Rattle.std.specs.Char.{encode_utf8}
use Rattle.std.proofs.lemmas.Str.{chars-nil, chars-append, chars_past_char, IsUtf8-append}
use Rattle.std.proofs.lemmas.Str.{IsUtf8-take, IsUtf8-drop, IsCharBoundary-at_seam, IsCharBoundary-from_take}
use Rattle.std.proofs.Math.Seq.{take-append_seam, drop-append_seam}
use Rattle.std.proofs.lemmas.List.{append-nil}
use Rattle.sgb_split.specs.declared.end.End.{End}
use Rattle.sgb_split.specs.declared.end.End.TheVariants.{Front, Back}
use Rattle.sgb_split.specs.declared.judge.Judge.{Ghosts}
use Rattle.sgb_split.specs.Judges.{IsRun}
use Rattle.sgb_split.specs.Split.{from, put_at, neighbours, AreNeighbours}
use Rattle.sgb_split.specs.Linear.{questions}
use Rattle.sgb_split.proofs.Lists.Ends.{length-from, length-put_at}
use Rattle.sgb_split.proofs.Questions.Runs.{may_now, may_next}
use Rattle.sgb_split.proofs.Lists.Pairs.{PairAt, pair_between, at_reverse, one_of_at, length-neighbours}
use Rattle.sgb_split.proofs.Linear.Scanning.{Accepted, accepted_none, accepted_more, refused_next, accepted_all}
use Rattle.sgb_linear_str_group.specs.Texts.{IsTextAt}

module _ {X : Type 0} where
  -- two at the end, the outer one and the one beyond it, as they stand in the list
  abbrev pub as_they_stand : End → X → X → X × X
  as_they_stand Front outer beyond = (outer, beyond)
  as_they_stand Back outer beyond = (beyond, outer)

  pub put_at_assoc : (e : End) (xs ys zs : List X) → put_at e xs (put_at e ys zs) ≡ put_at e (put_at e xs ys) zs
  put_at_assoc Front xs ys zs = sym (append_assoc xs ys zs)
  put_at_assoc Back xs ys zs = append_assoc zs ys xs

  pub put_at_none : (e : End) (xs : List X) → put_at e [] xs ≡ xs
  put_at_none Front xs = refl
  put_at_none Back xs = append-nil xs

  -- the pair of two elements, among the pairs from the end
  module _ (e : End) (xs seen rest : List X) (a b : X) (is : xs ≡ put_at e (put_at e seen (a ∷ [])) (put_at e (b ∷ []) rest)) where
    pair_here : PairAt (from e (neighbours xs)) (length seen) (as_they_stand e a b)
    pair_here = by e is
      where
        by : (e : End) → xs ≡ put_at e (put_at e seen (a ∷ [])) (put_at e (b ∷ []) rest)
            → PairAt (from e (neighbours xs)) (length seen) (as_they_stand e a b)
        by Front is = pair_between xs seen rest a b (is ∙ append_assoc seen (a ∷ []) (b ∷ rest))
        by Back is =
            let side : xs ≡ rest ++ b ∷ a ∷ seen = is ∙ append_assoc rest (b ∷ []) (a ∷ seen) in
            at_reverse (neighbours xs) (length rest) (length seen) (b, a) (pair_between xs rest seen b a side)
            (omega (arith, length-neighbours xs, ap length side, length-append rest (b ∷ a ∷ seen)))

    are_neighbours : AreNeighbours xs (as_they_stand e a b)
    are_neighbours = by e is
      where
        by : (e : End) → xs ≡ put_at e (put_at e seen (a ∷ [])) (put_at e (b ∷ []) rest) → AreNeighbours xs (as_they_stand e a b)
        by Front is =
            one_of_at (neighbours xs) (length seen) (a, b) (pair_between xs seen rest a b (is ∙ append_assoc seen (a ∷ []) (b ∷ rest)))
        by Back is =
            one_of_at (neighbours xs) (length rest) (b, a)
            (pair_between xs rest seen b a (is ∙ append_assoc rest (b ∷ []) (a ∷ seen)))

-- the bytes of parts at the end are UTF-8, and spell the characters of both
pub utf8-put_at : (e : End) (xs ys : List ℕ) → IsUtf8 xs → IsUtf8 ys → IsUtf8 (put_at e xs ys)
utf8-put_at Front xs ys u v = IsUtf8-append xs ys u v
utf8-put_at Back xs ys u v = IsUtf8-append ys xs v u

chars-put_at : (e : End) (xs ys : List ℕ) → IsUtf8 xs → IsUtf8 ys → chars (put_at e xs ys) ≡ put_at e (chars xs) (chars ys)
chars-put_at Front xs ys u v = chars-append xs ys u
chars-put_at Back xs ys u v = chars-append ys xs v

-- and a part of a text is UTF-8 where the rest is
pub utf8_part : (e : End) (text part rest : List ℕ) → IsUtf8 text → text ≡ put_at e part rest → IsUtf8 rest → IsUtf8 part
utf8_part Front text part rest u cut v =
    subst IsUtf8 (ap (take (length part)) cut ∙ take-append_seam part rest)
    (IsUtf8-take text (length part) u (IsCharBoundary-at_seam text part rest cut v))
utf8_part Back text part rest u cut v =
    let front : take (length rest) text ≡ rest = ap (take (length rest)) cut ∙ take-append_seam rest part in
    subst IsUtf8 (ap (drop (length rest)) cut ∙ drop-append_seam rest part)
    (IsUtf8-drop text (length rest) u (IsCharBoundary-from_take text (length rest) u
    (omega (arith, ap length cut, length-append rest part)) (subst IsUtf8 (sym front) v)))

chars_of_one : (c : ℕ) → IsUtf8 (encode_utf8 c) → chars (encode_utf8 c) ≡ c ∷ []
chars_of_one c u = chars_past_char (encode_utf8 c) [] c u (sym (append-nil (encode_utf8 c))) ∙ ap (λ l. c ∷ l) chars-nil

-- a text that has a character has a byte
has_byte : (text : List ℕ) → 0 < length (chars text) → 0 < length text
has_byte [] some = absurd (omega (arith, some, ap length chars-nil))
has_byte (b ∷ bs) some = omega arith

module _ {J : Type 0} (g : Ghosts J ℕ) (e : End) (text : List ℕ) (j : J) where
  -- the text is cut into a group at the end and the rest: the neighbours in the group were all accepted, which leads the judge from
  -- j to k, and its innermost character is this one
  pub record Scanned (rest : List ℕ) (innermost : ℕ) (k : J) : Type 0 where
    pub group : List ℕ
    pub cut : text ≡ put_at e group rest
    pub group_utf8 : IsUtf8 group
    pub rest_utf8 : IsUtf8 rest
    pub seen : List ℕ
    pub characters : chars group ≡ put_at e seen (innermost ∷ [])
    pub callable : IsCallableBy AreNeighbours g (record { remainder = chars text; judge = k })
    pub accepted : Accepted g.may_ask g.answers (from e (neighbours (chars text))) j (length seen) k

  -- the outermost character alone
  pub one_scanned : (c : ℕ) (rest : List ℕ) → IsUtf8 text → text ≡ put_at e (encode_utf8 c) rest → IsUtf8 rest
      → IsCallableBy AreNeighbours g (record { remainder = chars text; judge = j }) → Scanned rest c j
  one_scanned c rest u cut v callable = record {
    group = encode_utf8 c;
    cut = cut;
    group_utf8 = utf8_part e text (encode_utf8 c) rest u cut v;
    rest_utf8 = v;
    seen = [];
    characters = chars_of_one c (utf8_part e text (encode_utf8 c) rest u cut v) ∙ sym (put_at_none e (c ∷ []));
    callable = callable;
    accepted = accepted_none _ _ (from e (neighbours (chars text))) j 0 j refl refl;
  }

  module _ (rest : List ℕ) (innermost : ℕ) (k : J) (s : Scanned rest innermost k) where
    spelt : chars text ≡ put_at e (put_at e s.seen (innermost ∷ [])) (chars rest)
    spelt = ap chars s.cut ∙ chars-put_at e s.group rest s.group_utf8 s.rest_utf8 ∙ ap (λ l. put_at e l (chars rest)) s.characters

    count : length (chars s.group) ≡ length s.seen + 1
    count = ap length s.characters ∙ length-put_at e s.seen (innermost ∷ [])

    -- once the last of the questions is answered, the group is what a call gives
    found : (m : J) → IsRun g.may_ask g.answers j (questions e (chars text) (length s.seen + 1)) m
        → IsTextAt g e (record { text = text; judge = j }) s.group (record { text = rest; judge = m })
    found m run = record {
      characters = record {
        nonempty = omega (arith, count);
        cut = ap chars s.cut ∙ chars-put_at e s.group rest s.group_utf8 s.rest_utf8;
        asked = rw count run;
      };
      cut = s.cut;
      nonempty = has_byte s.group (omega (arith, count));
      group_utf8 = s.group_utf8;
      rest_utf8 = s.rest_utf8;
    }

    -- nothing is left beyond it
    pub found_all : rest ≡ [] → IsTextAt g e (record { text = text; judge = j }) s.group (record { text = rest; judge = k })
    found_all none =
        let all : length (chars text) ≡ length s.seen + 1 =
        omega (
          arith,
          ap length spelt,
          length-put_at e (put_at e s.seen (innermost ∷ [])) (chars rest),
          length-put_at e s.seen (innermost ∷ []),
          ap (λ l. length (chars l)) none,
          ap length chars-nil,
        ) in
        found k (accepted_all _ _ (from e (neighbours (chars text))) j (length s.seen) k s.accepted
        (omega (arith, all, length-from e (neighbours (chars text)), length-neighbours (chars text))) _ refl)

    -- the character beyond it
    module _ (beyond : ℕ) (further : List ℕ) (next : rest ≡ put_at e (encode_utf8 beyond) further) (u : IsUtf8 further) where
      next_utf8 : IsUtf8 (encode_utf8 beyond)
      next_utf8 = utf8_part e rest (encode_utf8 beyond) further s.rest_utf8 next u

      one : chars (encode_utf8 beyond) ≡ beyond ∷ []
      one = chars_of_one beyond next_utf8

      with_next : chars text ≡ put_at e (put_at e s.seen (innermost ∷ [])) (put_at e (beyond ∷ []) (chars further))
      with_next =
          spelt ∙ ap (λ l. put_at e (put_at e s.seen (innermost ∷ [])) l)
          (ap chars next ∙ chars-put_at e (encode_utf8 beyond) further next_utf8 u
          ∙ ap (λ l. put_at e l (chars further)) one)

      here : PairAt (from e (neighbours (chars text))) (length s.seen) (as_they_stand e innermost beyond)
      here = pair_here e (chars text) s.seen (chars further) innermost beyond with_next

      near : AreNeighbours (chars text) (as_they_stand e innermost beyond)
      near = are_neighbours e (chars text) s.seen (chars further) innermost beyond with_next

      pub may_ask : g.may_ask k (as_they_stand e innermost beyond)
      may_ask = may_now g.may_ask g.answers (AreNeighbours (chars text)) k _ s.callable near

      pub refused : (m : J) → g.answers k (as_they_stand e innermost beyond) false m
          → IsTextAt g e (record { text = text; judge = j }) s.group (record { text = rest; judge = m })
      refused m answer =
          found m (refused_next _ _ (from e (neighbours (chars text))) j (length s.seen) k m _ s.accepted here may_ask answer _ refl)

      pub one_more : (m : J) → g.answers k (as_they_stand e innermost beyond) true m → Scanned further beyond m
      one_more m answer = record {
        group = put_at e s.group (encode_utf8 beyond);
        cut = s.cut ∙ ap (λ l. put_at e s.group l) next ∙ put_at_assoc e s.group (encode_utf8 beyond) further;
        group_utf8 = utf8-put_at e s.group (encode_utf8 beyond) s.group_utf8 next_utf8;
        rest_utf8 = u;
        seen = put_at e s.seen (innermost ∷ []);
        characters =
            chars-put_at e s.group (encode_utf8 beyond) s.group_utf8 next_utf8
            ∙ ap (λ l. put_at e l (chars (encode_utf8 beyond))) s.characters
            ∙ ap (λ l. put_at e (put_at e s.seen (innermost ∷ [])) l) one;
        callable = may_next g.may_ask g.answers (AreNeighbours (chars text)) k _ true m s.callable near answer;
        accepted =
            accepted_more _ _ (from e (neighbours (chars text))) j (length s.seen) k m _ s.accepted here may_ask answer
            (length (put_at e s.seen (innermost ∷ []))) (length-put_at e s.seen (innermost ∷ []));
      }

      pub shorter : length further < length rest
      shorter =
          omega (
            arith,
            ap length next,
            length-put_at e (encode_utf8 beyond) further,
            has_byte (encode_utf8 beyond) (omega (arith, ap length one)),
          )
