-- Linear calls at the front, one after another, ask about the neighbouring pairs in their order.
use Rattle.std.proofs.Common.{◌≡◌, ◌<◌, Bool, List, [], ◌∷◌, ◌++◌, length, take, map, Option, Some}
use Rattle.std.proofs.Common.{refl, sym, ap, ◌∙◌, arith, append_assoc}
use Rattle.std.proofs.lemmas.List.{append-nil, map-append}
use Rattle.std.specs.Prelude.{option_map}
use Rattle.std.specs.Iterator.{Yields}
use Rattle.sgb_split.specs.declared.judge.Judge.{Ghosts}
use Rattle.sgb_split.specs.declared.end.End.TheVariants.{Front}
use Rattle.sgb_split.specs.Calls.{Groups, CallAt}
use Rattle.sgb_split.specs.Judges.{IsRun}
use Rattle.sgb_split.specs.Linear.{LinearQuestions, questions}
use Rattle.sgb_split.specs.Split.{neighbours}
use Rattle.sgb_split.proofs.Linear.LinearPairs.{pairs-along}
use Rattle.sgb_split.proofs.Questions.Runs.{run_append}

module _ {A : Type 0} where
  -- those of a part, with the one across, and those of the rest
  taken_off : (x : A) (xs rest : List A)
      → take (length (x ∷ xs)) (neighbours (x ∷ (xs ++ rest))) ++ neighbours rest ≡ neighbours (x ∷ (xs ++ rest))
  taken_off x [] [] = refl
  taken_off x [] (y ∷ ys) = refl
  taken_off x (z ∷ zs) rest = ap (λ l. (x, z) ∷ l) (taken_off z zs rest)

  asked_off : (part rest : List A) → 0 < length part
      → map (λ r. r.0) (questions Front (part ++ rest) (length part)) ++ neighbours rest ≡ neighbours (part ++ rest)
  asked_off [] rest h = absurd (omega arith)
  asked_off (x ∷ xs) rest h =
      ap (λ l. l ++ neighbours rest) (pairs-along (neighbours (x ∷ (xs ++ rest))) (length (x ∷ xs)) h) ∙ taken_off x xs rest

module _ {T J : Type 0} (g : Ghosts J T) where
  -- a run of questions, about those pairs that are gone
  pub record AsksInOrder (s t : Groups T J) : Type 0 where
    pub questions : List ((T × T) × Bool)
    pub run : IsRun g.may_ask g.answers s.judge questions t.judge
    pub pairs : map (λ r. r.0) questions ++ neighbours t.remainder ≡ neighbours s.remainder

  module _ {Q I : Type 0} (gives : Q → Option I → Q → Type 0) (groups : Q → Groups T J) (shows : I → List T)
      (call : (q : Q) (o : Option I) (t : Q) → gives q o t → CallAt (LinearQuestions g) Front (groups q) (option_map shows o) (groups t)) where
    pub yields_in_order : (s t : Q) (items : List I) → Yields gives s items t → AsksInOrder (groups s) (groups t)
    yields_in_order s t [] y = record {
      questions = [];
      run = ap (λ q. (groups q).judge) (sym y);
      pairs = ap (λ q. neighbours (groups q).remainder) (sym y);
    }
    yields_in_order s t (x ∷ xs) y =
        let first = call s (Some x) y.0 y.1 in
        let others = yields_in_order y.0 t xs y.2 in
        let qs = questions Front (groups s).remainder (length (shows x)) in
        let those : map (λ r. r.0) qs ++ neighbours (groups y.0).remainder ≡ neighbours (groups s).remainder =
        rw first.cut (asked_off (shows x) (groups y.0).remainder first.nonempty) in
        record {
          questions = qs ++ others.questions;
          run = run_append _ _ (groups s).judge qs (groups y.0).judge others.questions (groups t).judge first.asked others.run;
          pairs =
              ap (λ l. l ++ neighbours (groups t).remainder) (map-append {B = T × T} (λ r. r.0) qs others.questions)
              ∙ append_assoc (map (λ r. r.0) qs) (map (λ r. r.0) others.questions) (neighbours (groups t).remainder)
              ∙ ap (λ l. map (λ r. r.0) qs ++ l) others.pairs ∙ those;
        }

  pub in_order : (s t : Groups T J) → AsksInOrder s t → t.remainder ≡ []
      → (rs : List ((T × T) × Bool)) × IsRun g.may_ask g.answers s.judge rs t.judge × (map (λ r. r.0) rs ≡ neighbours s.remainder)
  in_order s t a none =
      let nothing : neighbours t.remainder ≡ [] = ap neighbours none in
      (a.questions, a.run, sym (append-nil (map (λ r. r.0) a.questions)) ∙ ap (λ l. map (λ r. r.0) a.questions ++ l) (sym nothing) ∙ a.pairs)
