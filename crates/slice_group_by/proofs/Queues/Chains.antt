-- What a chain of calls promises, from what each call does.
use Rattle.std.proofs.Common.{◌≡◌, ℕ, ◌+◌, Bool, List, [], ◌∷◌, ◌++◌, Option, None, Some, map, refl, sym, ap, ◌∙◌, subst, append_assoc, reverse}
use Rattle.std.specs.Prelude.{option_map}
use Rattle.std.specs.List.{AllByRecursion}
use Rattle.std.proofs.lemmas.List.{append-nil, reverse-append}
use Rattle.std.proofs.lemmas.Grind.{flat_map-append}
use Rattle.sgb_split.specs.Split.{put_at, TakesPart, first, last, without_first, without_last, IsSplit, IsAccepted, TakesPiece, split, concat}
use Rattle.sgb_split.proofs.Splits.Split.{split_is, split_only}
use Rattle.sgb_split.proofs.Splits.Grouped.{last_is}
use Rattle.sgb_split.specs.declared.end.End.{End}
use Rattle.sgb_split.specs.declared.end.End.TheVariants.{Front, Back}
use Rattle.sgb_split.specs.Judges.{AsksWithin}
use Rattle.sgb_split.proofs.Questions.Calls.{asks_nothing, asks_add}
use Rattle.slice_group_by.specs.Queue.{pops, after_pops}
use Rattle.slice_group_by.specs.Walk.{Partition, put_given, IsChain, AnswersAsQueue}

pub joined_push : {A : Type 0} (gs : List (List A)) (g : List A) → concat (gs ++ g ∷ []) ≡ concat gs ++ g
joined_push gs g = flat_map-append (λ x. x) gs (g ∷ []) ∙ ap (λ l. concat gs ++ l) (append-nil g)

first_accepted : {A : Type 0} (p : A → A → Bool) (x : List A) (ps : List (List A)) → AllByRecursion (IsAccepted p) ps → Some x ≡ first ps
    → IsAccepted p x
first_accepted p x [] a e = cc e
first_accepted p x (y ∷ ps) a e = let same : y ≡ x = cc e in subst (IsAccepted p) same a.0

last_accepted : {A : Type 0} (p : A → A → Bool) (x : List A) (ps : List (List A)) → AllByRecursion (IsAccepted p) ps → Some x ≡ last ps
    → IsAccepted p x
last_accepted p x [] a e = cc e
last_accepted p x (y ∷ []) a e = let same : y ≡ x = cc e in subst (IsAccepted p) same a.0
last_accepted p x (y ∷ z ∷ zs) a e = last_accepted p x (z ∷ zs) a.1 e

-- a list is its first item and the others, and the others and its last item
pub first_and_others : {X : Type 0} (xs : List X) (x : X) (ys : List X) → Some x ≡ first xs → ys ≡ without_first xs → xs ≡ x ∷ ys
first_and_others [] x ys e h = cc e
first_and_others (z ∷ zs) x ys e h = cc (e, h)

pub others_and_last : {X : Type 0} (xs : List X) (x : X) (ys : List X) → Some x ≡ last xs → ys ≡ without_last xs → xs ≡ ys ++ x ∷ []
others_and_last xs x ys e h = last_is xs x (sym e) ∙ ap (λ l. l ++ x ∷ []) (sym h)

-- the piece, at its end of the others
pub piece_and_others : {A : Type 0} (e : End) (p : A → A → Bool) (xs group ys : List A) → TakesPiece p e xs (Some group) ys
    → split p xs ≡ put_at e (group ∷ []) (split p ys)
piece_and_others Front p xs group ys h = first_and_others _ group _ h.0 h.1
piece_and_others Back p xs group ys h = others_and_last _ group _ h.0 h.1

-- and a piece is accepted inside
pub piece_accepted : {A : Type 0} (e : End) (p : A → A → Bool) (xs group ys : List A) → TakesPiece p e xs (Some group) ys
    → IsAccepted p group
piece_accepted Front p xs group ys h = first_accepted p group (split p xs) (split_is p xs).accepted h.0
piece_accepted Back p xs group ys h = last_accepted p group (split p xs) (split_is p xs).accepted h.0

-- one call more, in front of the others: the front groups fs, what remains z, and the back groups bs join to ys
part_at : {A : Type 0} (e : End) (o : Option (List A)) (xs ys : List A) (fs bs : List (List A)) (z : List A) → TakesPart e xs o ys
    → (concat fs ++ z) ++ concat (reverse bs) ≡ ys → (concat (put_given Front e o fs) ++ z) ++ concat (reverse (put_given Back e o bs)) ≡ xs
part_at Front None xs ys fs bs z t h = h ∙ t.1 ∙ sym t.0
part_at Back None xs ys fs bs z t h = h ∙ t.1 ∙ sym t.0
part_at Front (Some g) xs ys fs bs z t h = simp append_assoc (ap (λ l. g ++ l) (simp append_assoc at h) ∙ sym t.1)
part_at Back (Some g) xs ys fs bs z t h =
    ap (λ l. (concat fs ++ z) ++ l) (ap concat (reverse-append (g ∷ []) bs) ∙ joined_push (reverse bs) g)
    ∙ sym (append_assoc (concat fs ++ z) (concat (reverse bs)) g) ∙ ap (λ l. l ++ g) h ∙ sym t.1

module _ {Q I : Type 0} (gives : End → Q → Option I → Q → Type 0) where
  -- what each call keeps, the calls keep
  pub chain_keeps : (can : Q → Type 0) → ((e : End) (q : Q) (o : Option I) (t : Q) → gives e q o t → can q → can t)
      → (q : Q) (es : List End) (os : List (Option I)) (t : Q) → IsChain gives q es os t → can q → can t
  chain_keeps can keeps q [] [] t c may = subst can (sym c) may
  chain_keeps can keeps q [] (o ∷ os) t c may = absurd c
  chain_keeps can keeps q (e ∷ es) [] t c may = absurd c
  chain_keeps can keeps q (e ∷ es) (o ∷ os) t c may = chain_keeps can keeps c.0 es os t c.2 (keeps e q o c.0 c.1 may)

  -- one call more, after the others
  pub chain_push : (q : Q) (es : List End) (os : List (Option I)) (m : Q) (e : End) (o : Option I) (r : Q) → IsChain gives q es os m
      → gives e m o r → IsChain gives q (es ++ e ∷ []) (os ++ o ∷ []) r
  chain_push q [] [] m e o r c s = (r, subst (λ x. gives e x o r) c s, refl)
  chain_push q [] (o' ∷ os) m e o r c s = absurd c
  chain_push q (e' ∷ es) [] m e o r c s = absurd c
  chain_push q (e' ∷ es) (o' ∷ os) m e o r c s = (c.0, c.1, chain_push c.0 es os m e o r c.2 s)

  module _ {A : Type 0} (remainder : Q → List A) (shows : I → List A) where
    pub chain_parts :
        ((e : End) (q : Q) (o : Option I) (t : Q) → gives e q o t → TakesPart e (remainder q) (option_map shows o) (remainder t))
        → (q : Q) (es : List End) (os : List (Option I)) (r : Q) → IsChain gives q es os r
        → Partition es (map (option_map shows) os) (remainder r) (remainder q)
    chain_parts part q [] [] r c = append-nil (remainder r) ∙ ap remainder c
    chain_parts part q [] (o ∷ os) r c = absurd c
    chain_parts part q (e ∷ es) [] r c = absurd c
    chain_parts part q (e ∷ es) (o ∷ os) r c =
        part_at e (option_map shows o) (remainder q) (remainder c.0) _ _ (remainder r) (part e q o c.0 c.1)
        (chain_parts part c.0 es os r c.2)

    -- of a settled queue
    pub record Answered (settled : Q → (A → A → Bool) → Type 0) (p : A → A → Bool) (q : Q) (es : List End) (os : List (Option I))
        (r : Q) : Type 0 where
      pub stays : settled r p
      pub answers : map (option_map shows) os ≡ pops (split p (remainder q)) es
      pub rest : split p (remainder r) ≡ after_pops (split p (remainder q)) es

    module _ (settled : Q → (A → A → Bool) → Type 0) (p : A → A → Bool)
        (piece : (e : End) (q : Q) (o : Option I) (t : Q) (p : A → A → Bool) → gives e q o t → settled q p → TakesPiece p e (remainder q)
        (option_map shows o) (remainder t) × settled t p) where
      pub chain_answers : (q : Q) (es : List End) (os : List (Option I)) (r : Q) → IsChain gives q es os r → settled q p
          → Answered settled p q es os r
      chain_answers q [] [] r c h =
          record { stays = subst (λ x. settled x p) (sym c) h; answers = refl; rest = ap (λ x. split p (remainder x)) c }
      chain_answers q [] (o ∷ os) r c h = absurd c
      chain_answers q (e ∷ es) [] r c h = absurd c
      chain_answers q (e ∷ es) (o ∷ os) r c h =
          let step = piece e q o c.0 p c.1 h in
          let now = step.0 in
          let later = chain_answers c.0 es os r c.2 step.1 in
          record {
            stays = later.stays;
            answers = rw (now.0, later.answers, now.1) refl;
            rest = later.rest ∙ ap (λ ps. after_pops ps es) now.1;
          }

      pub chain_settled : (q : Q) (es : List End) (os : List (Option I)) (r : Q) → IsChain gives q es os r → settled q p
          → settled r p × ((ps : List (List A)) × AnswersAsQueue p (remainder q) es (map (option_map shows) os) (remainder r) ps)
      chain_settled q es os r c h =
          let a = chain_answers q es os r c h in (
            a.stays,
            (
              split p (remainder q),
              record {
                is_split = split_is p (remainder q);
                only = split_only p (remainder q);
                gave = a.answers;
                rest = subst (IsSplit p (remainder r)) a.rest (split_is p (remainder r));
              },
            ),
          )

  module _ (asked : Q → Q → ℕ → Type 0) (due : Q → ℕ) (exact : Bool) (none : (q : Q) → asked q q 0)
      (more : (q r t : Q) (k m : ℕ) → asked q r k → asked r t m → asked q t (k + m))
      (asks : (e : End) (q : Q) (o : Option I) (t : Q) → gives e q o t → AsksWithin asked due exact q t) where
    pub chain_asks : (q : Q) (es : List End) (os : List (Option I)) (r : Q) → IsChain gives q es os r → AsksWithin asked due exact q r
    chain_asks q [] [] r c = subst (λ x. AsksWithin asked due exact q x) (sym c) (asks_nothing asked due exact none q)
    chain_asks q [] (o ∷ os) r c = absurd c
    chain_asks q (e ∷ es) [] r c = absurd c
    chain_asks q (e ∷ es) (o ∷ os) r c = asks_add asked due exact more q c.0 r (asks e q o c.0 c.1) (chain_asks c.0 es os r c.2)
