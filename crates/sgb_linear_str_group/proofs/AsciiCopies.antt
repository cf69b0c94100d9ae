-- Copies of a character of ASCII at the end of a text: the group that the questions about characters find.
use Rattle.std.proofs.Common.{◌≡◌, ◌≢◌, ℕ, zero, suc, ◌+◌, ◌-◌, ◌<◌, true, false, List, [], ◌∷◌, ◌++◌}
use Rattle.std.proofs.Common.{length, replicate, nat_eq, get_or, take, drop, refl, sym, ap, ◌∙◌, subst, arith, ⊎_elim, length-append}
use Rattle.std.specs.Str.{chars, IsUtf8, IsCharBoundary, encode_utf8_all}
use Rattle.std.specs.Char.{encode_utf8}
use Rattle.std.proofs.lemmas.Bool.{ne_eqb, eq-eqb, eqb-true, eqb-false, cases_lt}
use Rattle.std.proofs.lemmas.List.{replicate-append-replicate, length-replicate, get_or-replicate, get_or-append-add, get_or-take}
use Rattle.std.proofs.lemmas.List.{get_or-drop, ext_get_or, length-take-le, length-drop, take-append-drop}
use Rattle.std.proofs.lemmas.Grind.{get_or_default_zero}
use Rattle.std.proofs.lemmas.Str.{encode_ascii, IsUtf8-nil, IsUtf8-append, IsUtf8-from_ascii}
use Rattle.std.proofs.lemmas.Str.{IsUtf8-encode, IsCharBoundary-from_take, IsCharBoundary-before_ascii}
use Rattle.std.proofs.lemmas.Str.Ascii.{IsAscii-cons, IsAscii-nil}
use lib.Dec.{eqb}
use Rattle.sgb_numbers.specs.Numbers.{IsFirstLen, IsLastLen}
use Rattle.sgb_split.specs.Calls.{IsCallableBy}
use Rattle.sgb_split.specs.declared.end.End.{End}
use Rattle.sgb_split.specs.declared.end.End.TheVariants.{Front, Back}
use Rattle.sgb_split.specs.declared.judge.EqualityJudge.{EqualityJudge}
use Rattle.sgb_split.specs.Judges.{by_equality}
use Rattle.sgb_split.specs.Split.{put_at, AreNeighbours}
use Rattle.sgb_linear_str_group.specs.Texts.{IsTextAt}
use Rattle.sgb_linear_str_group.specs.Copies.{outermost_byte, IsCutAtCopies}
use Rattle.sgb_linear_str_group.proofs.LastCharacter.{ends, both}
use Rattle.sgb_split.proofs.Lists.Ends.{length-put_at}
use Rattle.sgb_linear_str_group.proofs.Scanned.{as_they_stand, put_at_assoc, put_at_none, utf8-put_at, utf8_part}
use Rattle.sgb_linear_str_group.proofs.Scanned.{Scanned, one_scanned, one_more, found_all, refused}
use Rattle.sgb_linear_str_group.proofs.Cuts.{cut_alike}

-- a text that is not empty has a character at its end
record Outermost (e : End) (text : List ℕ) : Type 0 where
  character : ℕ
  rest : List ℕ
  is : text ≡ put_at e (encode_utf8 character) rest
  rest_utf8 : IsUtf8 rest

outermost : (e : End) (text : List ℕ) → IsUtf8 text → 0 < length text → Outermost e text
outermost Front text ([], s) some = absurd (omega (arith, ap length s.1))
outermost Front text (c ∷ cs, s) some = record {
  character = c;
  rest = encode_utf8_all cs;
  is = sym s.1;
  rest_utf8 = (cs, ((both _ _ s.0).1, refl));
}
outermost Back text u some =
    let last = ends text u some in
    record {
      character = last.character;
      rest = last.before;
      is = last.is;
      rest_utf8 = utf8_part Front text last.before (encode_utf8 last.character) u last.is (IsUtf8-encode last.character last.scalar);
    }

-- a byte at the end of a text is its outermost byte
outermost_of : (e : End) (b : ℕ) (rest : List ℕ) → outermost_byte e (put_at e (b ∷ []) rest) ≡ b
outermost_of Front b rest = refl
outermost_of Back b rest =
    ap (λ (n : ℕ). get_or (rest ++ b ∷ []) n 0) {x = length (rest ++ b ∷ []) - 1} {y = length rest + 0}
    (omega (arith, length-append rest (b ∷ [])))
    ∙ get_or-append-add rest (b ∷ []) 0 0

-- what is said of two equal characters, and of two that differ
said_equal : (e : End) (b : ℕ) → true ≡ nat_eq (as_they_stand e b b).0 (as_they_stand e b b).1
said_equal Front b = sym (eq-eqb b b refl)
said_equal Back b = sym (eq-eqb b b refl)

said_unlike : (e : End) (b c : ℕ) → b ≢ c → false ≡ nat_eq (as_they_stand e b c).0 (as_they_stand e b c).1
said_unlike Front b c other = sym (ne_eqb b c other)
said_unlike Back b c other = sym (ne_eqb c b (λ same. other (sym same)))

copies_utf8 : (b : ℕ) → b < 128 → (n : ℕ) → IsUtf8 (replicate n b)
copies_utf8 b ascii zero = IsUtf8-nil
copies_utf8 b ascii (suc n) =
    IsUtf8-append (b ∷ []) (replicate n b) (IsUtf8-from_ascii (b ∷ []) (IsAscii-cons b [] ascii IsAscii-nil)) (copies_utf8 b ascii n)

-- what copies leave of a text is UTF-8
left_utf8 : (e : End) (text group rest : List ℕ) → IsUtf8 text → text ≡ put_at e group rest → IsUtf8 group → IsUtf8 rest
left_utf8 Front text group rest utf8 cut u = utf8_part Back text rest group utf8 cut u
left_utf8 Back text group rest utf8 cut u = utf8_part Front text rest group utf8 cut u

-- numbers that a scan by equality found alike
alike : (xs : List ℕ) (place i : ℕ) → i < length xs → eqb (get_or xs i (get_or xs place 0)) (get_or xs place 0) ≡ true
    → get_or xs i 0 ≡ get_or xs place 0
alike xs place i within h = sym (get_or_default_zero xs i (get_or xs place 0) within) ∙ eqb-true _ _ h

-- a list of one number alone
all_copies : (xs : List ℕ) (b : ℕ) → ((i : ℕ) → i < length xs → get_or xs i 0 ≡ b) → xs ≡ replicate (length xs) b
all_copies xs b each =
    ext_get_or 0 xs (replicate (length xs) b) (sym (length-replicate (length xs) b))
    (λ i l. each i l ∙ sym (get_or-replicate (length xs) i b 0 l))

module _ (text : List ℕ) (n : ℕ) where
  -- the first bytes that are equal to the first one
  module _ (found : IsFirstLen nat_eq text 0 (length text) n) where
    size_front : length (take n text) ≡ n
    size_front = length-take-le n text (let within = found.within in omega (arith, within))

    each_front : (i : ℕ) → i < n → get_or text i 0 ≡ get_or text 0 0
    each_front zero l = refl
    each_front (suc i) l =
        alike text 0 (suc i) (omega (arith, found.within)) ((found.like 0).at (suc i) (omega arith) (omega arith))

    pub cut_front : IsCutAtCopies Front text (take n text) (drop n text)
    cut_front = record {
      cut = sym (take-append-drop n text);
      nonempty = omega (arith, size_front, found.nonempty);
      copies =
          all_copies (take n text) (get_or text 0 0)
          (λ i l. get_or-take n text i 0 (omega (arith, size_front)) ∙ each_front i (omega (arith, size_front)));
      other =
          λ some same. eqb-false _ _ (found.unlike 0 (omega (arith, length-drop n text)))
          (ap (λ (m : ℕ). get_or text m 0) {x = 0 + n} {y = n + 0} (omega arith) ∙ sym (get_or-drop n text 0 0) ∙ same);
    }

    pub boundary_front : IsUtf8 text → get_or text 0 0 < 128 → IsCharBoundary text n
    boundary_front utf8 ascii =
        IsCharBoundary-from_take text n utf8 (let within = found.within in omega (arith, within))
        (subst IsUtf8 (sym cut_front.copies) (copies_utf8 (get_or text 0 0) ascii (length (take n text))))

  -- the last bytes that are equal to the last one
  module _ (found : IsLastLen nat_eq text 0 (length text) n) where
    abbrev place : ℕ
    place = length text - n

    size_back : length (drop place text) ≡ n
    size_back = omega (arith, length-drop place text, found.within)

    each_back : (i : ℕ) → i < n → get_or text (place + i) 0 ≡ get_or text (length text - 1) 0
    each_back i l =
        ⊎_elim
        (λ before.
        alike text (length text - 1) (place + i) (omega (arith, found.within))
        ((found.like 0).at (place + i) (omega arith) (omega (arith, found.within))))
        (λ last. ap (λ (m : ℕ). get_or text m 0) {x = place + i} {y = length text - 1} (omega (arith, found.within)))
        (cases_lt (suc i) n)

    pub cut_back : IsCutAtCopies Back text (drop place text) (take place text)
    cut_back = record {
      cut = sym (take-append-drop place text);
      nonempty = omega (arith, size_back, found.nonempty);
      copies =
          all_copies (drop place text) (get_or text (length text - 1) 0)
          (λ i l. get_or-drop place text i 0 ∙ each_back i (omega (arith, size_back)));
      other =
          λ some same.
          let size : length (take place text) ≡ place = length-take-le place text (omega arith) in
          eqb-false _ _ (found.unlike 0 (omega (arith, size)))
          (sym (get_or-take place text (place - 1) 0 (omega (arith, size)))
          ∙ ap (λ (m : ℕ). get_or (take place text) m 0) {x = place - 1} {y = length (take place text) - 1} (omega (arith, size)) ∙ same);
    }

    pub boundary_back : get_or text (length text - 1) 0 < 128 → IsCharBoundary text place
    boundary_back ascii =
        let first : get_or text place 0 ≡ get_or text (length text - 1) 0 =
        ap (λ (m : ℕ). get_or text m 0) {x = place} {y = place + 0} (omega arith) ∙ each_back 0 found.nonempty in
        IsCharBoundary-before_ascii text place (omega (arith, found.nonempty, found.within)) (rw first ascii)

-- the judge that was asked so many questions
abbrev judge_of : ℕ → EqualityJudge
judge_of n = record { asked = n }

module _ (e : End) (text : List ℕ) (j : EqualityJudge) (b : ℕ) (ascii : b < 128) (rest : List ℕ)
    (utf8 : IsUtf8 text) (rest_utf8 : IsUtf8 rest)
    (callable : IsCallableBy AreNeighbours (by_equality nat_eq) (record { remainder = chars text; judge = j })) where
  -- the judge after so many questions
  abbrev after : ℕ → EqualityJudge
  after n = judge_of (j.asked + n)

  -- so many copies before the rest
  abbrev with_copies : ℕ → List ℕ
  with_copies n = put_at e (replicate n b) rest

  one : encode_utf8 b ≡ b ∷ []
  one = encode_ascii b ascii

  one_at_end : (n : ℕ) → put_at e (b ∷ []) (replicate n b) ≡ replicate (suc n) b
  one_at_end n = by e
    where
      by : (e : End) → put_at e (b ∷ []) (replicate n b) ≡ replicate (suc n) b
      by Front = refl
      by Back = replicate-append-replicate n 1 b ∙ ap (λ (n : ℕ). replicate n b) {x = n + 1} {y = suc n} (omega arith)

  peeled : (n : ℕ) → with_copies (suc n) ≡ put_at e (encode_utf8 b) (with_copies n)
  peeled n =
      ap (λ l. put_at e l rest) (sym (one_at_end n)) ∙ sym (put_at_assoc e (b ∷ []) (replicate n b) rest)
      ∙ ap (λ l. put_at e l (with_copies n)) (sym one)

  with_copies_utf8 : (n : ℕ) → IsUtf8 (with_copies n)
  with_copies_utf8 n = utf8-put_at e (replicate n b) rest (copies_utf8 b ascii n) rest_utf8

  -- n questions about copies are accepted
  scanned : (n more : ℕ) → text ≡ with_copies (suc n + more) → Scanned (by_equality nat_eq) e text j (with_copies more) b (after n)
  scanned zero more is =
      subst (Scanned (by_equality nat_eq) e text j (with_copies more) b) (ap judge_of {x = j.asked} {y = j.asked + 0} (omega arith))
      (one_scanned (by_equality nat_eq) e text j b (with_copies more) utf8
      (is ∙ ap with_copies {x = suc zero + more} {y = suc more} (omega arith) ∙ peeled more) (with_copies_utf8 more) callable)
  scanned (suc n) more is =
      let before = scanned n (suc more) (is ∙ ap with_copies {x = suc (suc n) + more} {y = suc n + suc more} (omega arith)) in
      one_more (by_equality nat_eq) e text j (with_copies (suc more)) b (after n) before b (with_copies more) (peeled more)
      (with_copies_utf8 more) (after (suc n)) (said_equal e b, omega arith)

  module _ (n : ℕ) (cut : text ≡ with_copies (suc n)) where
    all : Scanned (by_equality nat_eq) e text j rest b (after n)
    all =
        subst (λ l. Scanned (by_equality nat_eq) e text j l b (after n)) (put_at_none e rest)
        (scanned n 0 (cut ∙ ap with_copies {x = suc n} {y = suc n + 0} (omega arith)))

    same_length : length (replicate (suc n) b) ≡ length all.group
    same_length =
        omega (arith, ap length cut, ap length all.cut, length-put_at e (replicate (suc n) b) rest, length-put_at e all.group rest)

    -- they are the group: where nothing else remains
    pub last_copies : rest ≡ [] → IsTextAt (by_equality nat_eq) e (record { text = text; judge = j }) (replicate (suc n) b)
        (record { text = rest; judge = after n })
    last_copies none =
        cut_alike (by_equality nat_eq) e text all.group rest j (after n)
        (found_all (by_equality nat_eq) e text j rest b (after n) all none) (replicate (suc n) b) rest cut same_length

    -- and where another character follows
    pub copies_before_another : 0 < length rest → outermost_byte e rest ≢ b
        → IsTextAt (by_equality nat_eq) e (record { text = text; judge = j }) (replicate (suc n) b)
        (record { text = rest; judge = after (suc n) })
    copies_before_another some other =
        let next = outermost e rest rest_utf8 some in
        let unlike : b ≢ next.character =
        λ same. other (ap (outermost_byte e) (next.is ∙ ap (λ l. put_at e l next.rest) (ap encode_utf8 (sym same) ∙ one))
        ∙ outermost_of e b next.rest) in
        cut_alike (by_equality nat_eq) e text all.group rest j (after (suc n))
        (refused (by_equality nat_eq) e text j rest b (after n) all next.character next.rest next.is next.rest_utf8 (after (suc n))
        (said_unlike e b next.character unlike, omega arith)) (replicate (suc n) b) rest cut same_length

-- the group that is cut off so is what the questions find, counted by their number
module _ (e : End) (text group rest : List ℕ) (j k : EqualityJudge) (utf8 : IsUtf8 text) (ascii : outermost_byte e text < 128)
    (callable : IsCallableBy AreNeighbours (by_equality nat_eq) (record { remainder = chars text; judge = j }))
    (h : IsCutAtCopies e text group rest) where
  abbrev byte : ℕ
  byte = outermost_byte e text

  size : length group ≡ suc (length group - 1)
  size = let some = h.nonempty in omega arith

  copies : group ≡ replicate (suc (length group - 1)) byte
  copies = h.copies ∙ ap (λ (n : ℕ). replicate n byte) size

  cut : text ≡ put_at e (replicate (suc (length group - 1)) byte) rest
  cut = h.cut ∙ ap (λ l. put_at e l rest) copies

  rest_utf8 : IsUtf8 rest
  rest_utf8 =
      left_utf8 e text group rest utf8 h.cut (subst IsUtf8 (sym h.copies) (copies_utf8 byte ascii (length group)))

  pub found_last : rest ≡ [] → k.asked ≡ j.asked + (length group - 1)
      → IsTextAt (by_equality nat_eq) e (record { text = text; judge = j }) group (record { text = rest; judge = k })
  found_last none count = rw (copies, count) (last_copies e text j byte ascii rest utf8 rest_utf8 callable (length group - 1) cut none)

  pub found_before_another : 0 < length rest → k.asked ≡ j.asked + length group
      → IsTextAt (by_equality nat_eq) e (record { text = text; judge = j }) group (record { text = rest; judge = k })
  found_before_another some count =
      rw (copies, count ∙ ap (λ (n : ℕ). j.asked + n) size)
      (copies_before_another e text j byte ascii rest utf8 rest_utf8 callable (length group - 1) cut some (h.other some))
