-- Runs of questions, and what holds along them.
use Rattle.std.proofs.Common.{◌≡◌, ℕ, ◌+◌, List, [], ◌∷◌, ◌++◌, length-append, refl, subst, sym}
use Rattle.std.specs.List.{AllByRecursion}
use Rattle.sgb_split.specs.Judges.{IsRun, IsRunOf, IsCallable, Computes}
use Rattle.sgb_split.proofs.Lists.AllByRecursion.{all_append, all_of_rest, all_each}

module _ {S Q A : Type 0} (may : S → Q → Type 0) (gives : S → Q → A → S → Type 0) where
  pub run_append : (s : S) (rs : List (Q × A)) (t : S) (qs : List (Q × A)) (u : S) → IsRun may gives s rs t → IsRun may gives t qs u
      → IsRun may gives s (rs ++ qs) u
  run_append s [] t qs u e h = subst (λ (v : S). IsRun may gives v qs u) e h
  run_append s (r ∷ rs) t qs u h k = (h.0, (h.1.0, h.1.1, run_append h.1.0 rs t qs u h.1.2 k))

  -- one question more
  pub run_push : (s : S) (rs : List (Q × A)) (t u : S) (q : Q) (a : A) → IsRun may gives s rs t → may t q → gives t q a u
      → IsRun may gives s (rs ++ (q, a) ∷ []) u
  run_push s rs t u q a h m e = run_append s rs t ((q, a) ∷ []) u h (m, (u, e, refl))

  -- no question, and one run after another
  pub run_of_none : (s : S) → IsRunOf may gives 0 s s
  run_of_none s = ([], refl, refl)

  pub run_of_more : (s t u : S) (k m : ℕ) → IsRunOf may gives k s t → IsRunOf may gives m t u → IsRunOf may gives (k + m) s u
  run_of_more s t u k m a b = (a.0 ++ b.0, run_append s a.0 t b.0 u a.1 b.1, rw (length-append a.0 b.0, a.2, b.2) refl)

  -- of fewer allowed questions, after a run of allowed ones: each may still be asked
  pub may_after : (wide narrow : Q → Type 0) → ((q : Q) → narrow q → wide q) → (s : S) (rs : List (Q × A)) (t : S) → IsRun may gives s rs t
      → AllByRecursion (λ r. wide r.0) rs → IsCallable may gives wide s → IsCallable may gives narrow t
  may_after wide narrow sub s rs t run all may_all qs u more these q ok =
      may_all (rs ++ qs) u (run_append s rs t qs u run more) (all_append _ rs qs all (all_each _ _ (λ r. sub r.0) qs these)) q (sub q ok)

  -- and each still has its one answer
  pub answers_after : (wide narrow : Q → Type 0) → ((q : Q) → narrow q → wide q) → (answer : Q → A) → (s : S) (rs : List (Q × A)) (t : S)
      → IsRun may gives s rs t → AllByRecursion (λ r. wide r.0) rs → Computes may gives wide answer s → Computes may gives narrow answer t
  answers_after wide narrow sub answer s rs t run all by =
      record {
        at =
            λ qs u more these. all_of_rest (λ r. r.1 ≡ answer r.0) rs qs
            (by.at (rs ++ qs) u (run_append s rs t qs u run more) (all_append _ rs qs all (all_each _ _ (λ r. sub r.0) qs these)));
      }

  -- one question
  pub may_now : (allowed : Q → Type 0) (s : S) (q : Q) → IsCallable may gives allowed s → allowed q → may s q
  may_now allowed s q h ok = h [] s refl tt q ok

  pub may_next : (allowed : Q → Type 0) (s : S) (q : Q) (a : A) (t : S) → IsCallable may gives allowed s → allowed q → gives s q a t
      → IsCallable may gives allowed t
  may_next allowed s q a t h ok e =
      may_after allowed allowed (λ q n. n) s ((q, a) ∷ []) t (may_now allowed s q h ok, (t, e, refl)) (ok, tt) h

  -- what each question keeps, a run does
  pub run_keeps : (I : S → Type 0) → ((s : S) (q : Q) (a : A) (t : S) → I s → gives s q a t → I t) → (s : S) (rs : List (Q × A)) (t : S)
      → IsRun may gives s rs t → I s → I t
  run_keeps I keeps s [] t run i = subst I (sym run) i
  run_keeps I keeps s (r ∷ rs) t run i = run_keeps I keeps run.1.0 rs t run.1.2 (keeps s r.0 r.1 run.1.0 i run.1.1)

  -- what one question asks for and keeps, every run does
  pub may_ask_by : (allowed : Q → Type 0) (I : S → Type 0) → ((s : S) (q : Q) → I s → allowed q → may s q)
      → ((s : S) (q : Q) (a : A) (t : S) → I s → allowed q → gives s q a t → I t) → (s : S) → I s → IsCallable may gives allowed s
  may_ask_by allowed I asks keeps s i [] t run all q ok = asks t q (subst I (sym run) i) ok
  may_ask_by allowed I asks keeps s i (r ∷ rs) t run all q ok =
      may_ask_by allowed I asks keeps run.1.0 (keeps s r.0 r.1 run.1.0 i all.0 run.1.1) rs t run.1.2 all.1 q ok

  pub answers_next : (allowed : Q → Type 0) (answer : Q → A) (s : S) (q : Q) (a : A) (t : S) → Computes may gives allowed answer s
      → allowed q → may s q → gives s q a t → (a ≡ answer q) × Computes may gives allowed answer t
  answers_next allowed answer s q a t by ok m e =
      let run : IsRun may gives s ((q, a) ∷ []) t = (m, (t, e, refl)) in
      ((by.at ((q, a) ∷ []) t run (ok, tt)).0, answers_after allowed allowed (λ q n. n) answer s ((q, a) ∷ []) t run (ok, tt) by)

  -- what one allowed question answers and keeps, every run does
  pub answers_allowed_by : (allowed : Q → Type 0) (answer : Q → A) (I : S → Type 0)
      → ((s : S) (q : Q) (a : A) (t : S) → I s → allowed q → may s q → gives s q a t → (a ≡ answer q) × I t) → (s : S) → I s
      → Computes may gives allowed answer s
  answers_allowed_by allowed answer I step s i = record { at = along s i }
    where
      along : (s : S) → I s → (rs : List (Q × A)) (t : S) → IsRun may gives s rs t → AllByRecursion (λ r. allowed r.0) rs
          → AllByRecursion (λ r. r.1 ≡ answer r.0) rs
      along s i [] t run all = tt
      along s i (r ∷ rs) t run all =
          let k = step s r.0 r.1 run.1.0 i all.0 run.0 run.1.1 in
          (k.0, along run.1.0 k.1 rs t run.1.2 all.1)

  -- the same of one that answers so and keeps it, allowed or not
  pub answers_by : (allowed : Q → Type 0) (answer : Q → A) (I : S → Type 0)
      → ((s : S) (q : Q) (a : A) (t : S) → I s → gives s q a t → (a ≡ answer q) × I t) → (s : S) → I s
      → Computes may gives allowed answer s
  answers_by allowed answer I step = answers_allowed_by allowed answer I (λ s q a t i ok m. step s q a t i)

  -- the same where a question leaves the state as it is
  pub answers_same : (allowed : Q → Type 0) (answer : Q → A) (s : S) → ((q : Q) (a : A) (t : S) → gives s q a t → (a ≡ answer q) × (t ≡ s))
      → Computes may gives allowed answer s
  answers_same allowed answer s step =
      answers_by allowed answer (λ u. u ≡ s) (λ u q a t e k. step q a t (subst (λ (v : S). gives v q a t) e k)) s refl
