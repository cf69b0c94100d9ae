-- The pairs of a call's questions, with the neighbouring pairs that are left, are those that there were.
use Rattle.std.proofs.Common.{◌≡◌, ℕ, zero, suc, ◌+◌, ◌-◌, ◌<◌, Bool, true, false, List, [], ◌∷◌, ◌++◌, length, take, drop, map, Option, None, Some, refl, sym, ap, ◌∙◌, subst, arith, take_all, append_assoc}
use Rattle.std.specs.Prelude.{IsPermutation}
use Rattle.std.proofs.lemmas.List.{append-nil, length-append, length-map, map-append}
use Rattle.std.proofs.Math.Seq.{take-append_seam}
use Rattle.std.proofs.lemmas.List.Sorted.{IsPermutation-refl, IsPermutation-trans, IsPermutation-sym, IsPermutation-append_right, length_permutation}
use Rattle.sgb_split.specs.declared.judge.Judge.{Ghosts}
use Rattle.sgb_split.specs.declared.end.End.{End}
use Rattle.sgb_split.specs.declared.end.End.TheVariants.{Front, Back}
use Rattle.sgb_split.specs.Split.{from, put_at, neighbours}
use Rattle.sgb_split.specs.Linear.{all_answered, questions_along, questions, LinearQuestions, AsksEachOnce}
use Rattle.sgb_split.specs.Calls.{CallAt, Groups}
use Rattle.sgb_split.proofs.Questions.Runs.{run_append}
use Rattle.sgb_split.proofs.Lists.Ends.{length-from, from_permutes}
use Rattle.sgb_split.proofs.Lists.Pairs.{across, pair_across, neighbours-put_at, length-neighbours}

module _ {A : Type 0} where
  -- what was asked about
  abbrev pub asked_pairs : List ((A × A) × Bool) → List (A × A)
  asked_pairs rs = map (λ r. r.0) rs

  length-pairs : (rs : List ((A × A) × Bool)) → length (asked_pairs rs) ≡ length rs
  length-pairs rs = length-map rs (λ r. r.0)

  pairs-answered : (b : Bool) (qs : List (A × A)) → asked_pairs (all_answered b qs) ≡ qs
  pairs-answered b [] = refl
  pairs-answered b (q ∷ qs) = ap (λ l. q ∷ l) (pairs-answered b qs)

  take_one_more : (n : ℕ) (qs : List (A × A)) → take n qs ++ take 1 (drop n qs) ≡ take (suc n) qs
  take_one_more zero [] = refl
  take_one_more zero (q ∷ qs) = refl
  take_one_more (suc n) [] = refl
  take_one_more (suc n) (q ∷ qs) = ap (λ l. q ∷ l) (take_one_more n qs)

  -- a call that takes g elements asks about the first g pairs from its end, as far as there are so many
  pub pairs-along : (qs : List (A × A)) (g : ℕ) → 0 < g → asked_pairs (questions_along qs g) ≡ take g qs
  pairs-along qs zero h = absurd (omega arith)
  pairs-along qs (suc n) h =
      let e : suc n - 1 ≡ n = omega arith in
      rw e
      (map-append {B = A × A} (λ r. r.0) (all_answered true (take n qs)) (all_answered false (take 1 (drop n qs)))
      ∙ ap (λ l. l ++ asked_pairs (all_answered false (take 1 (drop n qs)))) (pairs-answered true (take n qs))
      ∙ ap (λ l. take n qs ++ l) (pairs-answered false (take 1 (drop n qs)))
      ∙ take_one_more n qs)

  -- a nonempty part has as many pairs as elements, with the one towards the rest, if there is a rest
  length-across : (xs : List A) (x : A) (ys : List A) → 0 < length ys → length (across (x ∷ xs) ys) ≡ 1
  length-across [] x [] h = absurd (omega arith)
  length-across [] x (y ∷ ys) h = refl
  length-across (z ∷ zs) x ys h = length-across zs z ys h

  across-nil : (xs : List A) → across xs [] ≡ []
  across-nil [] = refl
  across-nil (x ∷ []) = refl
  across-nil (x ∷ z ∷ zs) = across-nil (z ∷ zs)

  pair_across-nil : (e : End) (group : List A) → pair_across e group [] ≡ []
  pair_across-nil Front group = across-nil group
  pair_across-nil Back group = refl

  length-pair_across : (e : End) (group : List A) (x : A) (xs : List A) → 0 < length group → length (pair_across e group (x ∷ xs)) ≡ 1
  length-pair_across Front [] x xs h = absurd (omega arith)
  length-pair_across Front (y ∷ ys) x xs h = length-across ys y (x ∷ xs) (omega arith)
  length-pair_across Back group x xs h = length-across xs x group h

  taken_pairs : (e : End) (group rest : List A) → 0 < length group
      → take (length group) (from e (neighbours group) ++ (pair_across e group rest ++ from e (neighbours rest)))
      ≡ from e (neighbours group) ++ pair_across e group rest
  taken_pairs e group [] h =
      let qs = from e (neighbours group) in
      let all : qs ++ (pair_across e group [] ++ from e (neighbours [])) ≡ qs ++ pair_across e group [] = ap (λ l. qs ++ l)
      (ap (λ l. pair_across e group [] ++ l) (from-nil e) ∙ append-nil (pair_across e group [])) in
      ap (take (length group)) all
      ∙ take_all (length group) (qs ++ pair_across e group [])
      (omega (
        arith,
        length-append qs (pair_across e group []),
        ap length (pair_across-nil e group),
        length-from e (neighbours group),
        length-neighbours group,
      ))
    where
      from-nil : (e : End) → from {X = A × A} e [] ≡ []
      from-nil Front = refl
      from-nil Back = refl
  taken_pairs e group (x ∷ xs) h =
      let qs = from e (neighbours group) ++ pair_across e group (x ∷ xs) in
      let rest = from e (neighbours (x ∷ xs)) in
      let n : length group ≡ length qs = omega (
        arith,
        length-append (from e (neighbours group)) (pair_across e group (x ∷ xs)),
        length-pair_across e group x xs h,
        length-from e (neighbours group),
        length-neighbours group,
      ) in
      ap (take (length group)) (sym (append_assoc (from e (neighbours group)) (pair_across e group (x ∷ xs)) rest))
      ∙ ap (λ (k : ℕ). take k (qs ++ rest)) n ∙ take-append_seam qs rest

  -- the pairs of the questions, and those of the rest, are those of the whole
  pairs_asked : (e : End) (group rest : List A) → 0 < length group
      → IsPermutation (asked_pairs (questions e (put_at e group rest) (length group)) ++ neighbours rest) (neighbours (put_at e group rest))
  pairs_asked e group rest h =
      let whole = neighbours (put_at e group rest) in
      let qs = from e (neighbours group) ++ pair_across e group rest in
      let cut : from e whole ≡ qs ++ from e (neighbours rest) =
      neighbours-put_at e group rest ∙ sym (append_assoc (from e (neighbours group)) (pair_across e group rest) (from e (neighbours rest))) in
      let asked : asked_pairs (questions e (put_at e group rest) (length group)) ≡ qs =
      pairs-along (from e whole) (length group) h ∙ ap (take (length group)) (neighbours-put_at e group rest)
      ∙ taken_pairs e group rest h in
      let rest_first = IsPermutation-sym _ _ (IsPermutation-append_right qs _ _ (from_permutes e (neighbours rest))) in
      let all : IsPermutation (qs ++ from e (neighbours rest)) whole = subst (λ l. IsPermutation l whole) cut (from_permutes e whole) in
      rw asked (IsPermutation-trans (qs ++ neighbours rest) (qs ++ from e (neighbours rest)) whole rest_first all)

module _ {T J : Type 0} (g : Ghosts J T) where
  pub asks_none : (s t : Groups T J) → t ≡ s → AsksEachOnce g s t
  asks_none s t e =
      record {
        questions = [];
        run = ap (λ u. u.judge) e;
        pairs = subst (λ (u : Groups T J). IsPermutation (neighbours u.remainder) (neighbours s.remainder)) (sym e)
            (IsPermutation-refl (neighbours s.remainder));
      }

  pub asks_once : (e : End) (s : Groups T J) (r : Option (List T)) (t : Groups T J) → CallAt (LinearQuestions g) e s r t
      → AsksEachOnce g s t
  asks_once e s None t h = asks_none s t h.1
  asks_once e s (Some x) t h = record {
    questions = questions e s.remainder (length x);
    run = h.asked;
    pairs = rw h.cut (pairs_asked e x t.remainder h.nonempty);
  }

  -- one chain of calls after another
  pub asks_more : (s t u : Groups T J) → AsksEachOnce g s t → AsksEachOnce g t u → AsksEachOnce g s u
  asks_more s t u a b = record {
    questions = a.questions ++ b.questions;
    run = run_append _ _ s.judge a.questions t.judge b.questions u.judge a.run b.run;
    pairs =
        let e : asked_pairs (a.questions ++ b.questions) ++ neighbours u.remainder ≡ asked_pairs a.questions ++
        (asked_pairs b.questions ++ neighbours u.remainder) =
        ap (λ l. l ++ neighbours u.remainder) (map-append {B = T × T} (λ r. r.0) a.questions b.questions)
        ∙ append_assoc (asked_pairs a.questions) (asked_pairs b.questions) (neighbours u.remainder) in
        rw e (IsPermutation-trans _ (asked_pairs a.questions ++ neighbours t.remainder) _
        (IsPermutation-append_right (asked_pairs a.questions) _ _ b.pairs) a.pairs);
  }

  -- so as many questions were asked as there are pairs fewer
  pub count_asked : (s t : Groups T J) (a : AsksEachOnce g s t)
      → length a.questions + length (neighbours t.remainder) ≡ length (neighbours s.remainder)
  count_asked s t a =
      omega (
        arith,
        length_permutation (asked_pairs a.questions ++ neighbours t.remainder) (neighbours s.remainder) a.pairs,
        length-append (asked_pairs a.questions) (neighbours t.remainder),
        length-pairs a.questions,
      )
