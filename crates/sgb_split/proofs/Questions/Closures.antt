-- Judges over a closure: when they may be asked, and for which test they are settled.
use Rattle.std.specs.Prelude.{◌≡◌, ℕ, Bool, List, [], ◌∷◌}
use Rattle.sgb_split.specs.Calls.{ComputesBy, IsCallableBy}
use Rattle.std.proofs.Common.{refl, ap, ◌∙◌}
use Rattle.std.specs.Borrow.{Bor}
use Rattle.std.specs.Fn.{Mut, Takes, TakesAt, Called, CalledAt, CalledAtTwo, ComputesOnPairs, ComputesKey}
use denote.Param.Always.{always_mut, mut_next}
use Rattle.sgb_split.specs.Judges.{IsRunOf, IsCallable, Computes, by_predicate, predicate_judge, by_key, key_judge}
use Rattle.sgb_split.specs.Judges.{MayCompareKeys, ComparesKeys, by_char_predicate, char_predicate_judge, by_char_key}
use Rattle.sgb_split.specs.Judges.{char_key_judge, CalledAtChar, ComputesOnChars, ComputesCharKey}
use Rattle.sgb_split.specs.declared.judge.KeyJudge.{KeyJudge}
use Rattle.sgb_split.specs.declared.judge.CharKeyJudge.{CharKeyJudge}
use Rattle.std.specs.List.{Contains}
use Rattle.sgb_split.specs.Split.{AreNeighbours, on_pairs}
use Rattle.sgb_split.specs.Judges.{IsCallableOn, ComputesOn}
use Rattle.sgb_split.proofs.Questions.Runs.{may_ask_by, answers_by, run_keeps}

-- a closure that may always be called may be called now, and may always be called after that
module _ {F X R : Type 0} (g : Mut F X R) where
  taken : (f : F) (a : X) → always_mut g f → Takes g f a
  taken f a i = (i.at (a ∷ [])).0

  always_next : (f : F) (a : X) (r : R) (f' : F) → Called g f a r f' → always_mut g f → always_mut g f'
  always_next f a r f' c i = mut_next g f a r f' f' c refl i

-- two calls for keys
module _ {F T K : Type 0} (takes : F → T → Type 0) (calls : F → T → K → F → Type 0) where
  module _ (I : F → Type 0) (next : (f : F) (x : T) (k : K) (f' : F) → calls f x k f' → I f → I f') where
    may_compare : ((f : F) (x : T) → I f → takes f x) → (f : F) (q : T × T) → I f → MayCompareKeys takes calls f q
    may_compare take f q i = (take f q.0 i, λ k f' c. take f' q.1 (next f q.0 k f' c i))

    compared_next : (eq : K → K → Bool) (f : F) (x y : T) (b : Bool) (f' : F) → ComparesKeys calls eq f x y b f' → I f → I f'
    compared_next eq f x y b f' c i = next c.state_between y c.second_key f' c.second_call (next f x c.first_key c.state_between c.first_call i)

  -- of a function that computes key
  module _ (key : T → K) (I : F → Type 0) (computes : (f : F) (x : T) (k : K) (f' : F) → I f → calls f x k f' → (k ≡ key x) × I f') where
    keys_next : (eq : K → K → Bool) (f : F) (x y : T) (b : Bool) (f' : F) → I f → ComparesKeys calls eq f x y b f'
        → (b ≡ eq (key x) (key y)) × I f'
    keys_next eq f x y b f' h c =
        let l = computes f x c.first_key c.state_between h c.first_call in
        let r = computes c.state_between y c.second_key f' l.1 c.second_call in
        (c.compared ∙ rw (l.0, r.0) refl, r.1)

module _ {P T : Type 0} (g : Mut P (Bor T × (Bor T × Unit {0})) Bool) where
  -- a predicate that may always be called
  pub predicate_callable : (allowed : T × T → Type 0) (f : P) → always_mut g f
      → IsCallable (by_predicate g).may_ask (by_predicate g).answers allowed (predicate_judge f)
  predicate_callable allowed f h =
      may_ask_by _ _ allowed (λ j. always_mut g j.predicate)
      (λ j q i ok v w e d. taken g j.predicate (v, (w, tt)) i)
      (λ j q b k i ok c. always_next g j.predicate (c.first, (c.second, tt)) b k.predicate c.called i)
      (predicate_judge f) h

  -- a predicate that computes p
  module _ (p : T → T → Bool) where
    pub computes_next : (f : P) (x y : T) (b : Bool) (f' : P) → ComputesOnPairs g p f → CalledAtTwo g f x y b f'
        → (b ≡ p x y) × ComputesOnPairs g p f'
    computes_next f x y b f' h c = (
      (h.at ((c.first, (c.second, tt)) ∷ []) b f' c.called).0 ∙ rw (c.shows.0, c.shows.1) refl,
      record { at = λ xs. (h.at ((c.first, (c.second, tt)) ∷ xs) b f' c.called).1 },
    )

    pub predicate_settled : (allowed : T × T → Type 0) (f : P) → ComputesOnPairs g p f
        → Computes (by_predicate g).may_ask (by_predicate g).answers allowed (on_pairs p) (predicate_judge f)
    predicate_settled allowed f h =
        answers_by _ _ allowed (on_pairs p) (λ j. ComputesOnPairs g p j.predicate)
        (λ j q b k i c. computes_next j.predicate q.0 q.1 b k.predicate i c) (predicate_judge f) h

module _ {F T K : Type 0} (g : Mut F (Bor T × Unit {0}) K) (eq : K → K → Bool) where
  pub key_called : (f : F) (x : T) (k : K) (f' : F) → CalledAt g f x k f' → always_mut g f → always_mut g f'
  key_called f x k f' c i = always_next g f (c.shown, tt) k f' c.called i

  -- a key function that may always be called
  pub key_callable : (allowed : T × T → Type 0) (f : F) → always_mut g f
      → IsCallable (by_key g eq).may_ask (by_key g eq).answers allowed (key_judge f)
  key_callable allowed f h =
      may_ask_by _ _ allowed (λ j. always_mut g j.func)
      (λ j q i ok. may_compare (TakesAt g) (CalledAt g) (always_mut g) key_called (λ f x i v e. taken g f (v, tt) i) j.func q i)
      (λ j q b k i ok c. compared_next (TakesAt g) (CalledAt g) (always_mut g) key_called eq j.func q.0 q.1 b k.func c i)
      (key_judge f) h

  -- and after a run of questions it still may
  pub key_callable_after : (j : KeyJudge F K) (n : ℕ) (k : KeyJudge F K) → IsRunOf (by_key g eq).may_ask (by_key g eq).answers n j k
      → always_mut g j.func → always_mut g k.func
  key_callable_after j n k run =
      run_keeps _ _ (λ j. always_mut g j.func)
      (λ j q b k i c. compared_next (TakesAt g) (CalledAt g) (always_mut g) key_called eq j.func q.0 q.1 b k.func c i)
      j run.0 k run.1

  pub key_taken : (f : F) (x : T) → always_mut g f → TakesAt g f x
  key_taken f x i v e = taken g f (v, tt) i

  -- a key function that computes key
  module _ (key : T → K) where
    pub key_next : (f : F) (x : T) (k : K) (f' : F) → ComputesKey g key f → CalledAt g f x k f' → (k ≡ key x) × ComputesKey g key f'
    key_next f x k f' h c =
        ((h.at ((c.shown, tt) ∷ []) k f' c.called).0 ∙ ap key c.shows, record { at = λ xs. (h.at ((c.shown, tt) ∷ xs) k f' c.called).1 })

    pub key_computes_after : (j : KeyJudge F K) (n : ℕ) (k : KeyJudge F K) → IsRunOf (by_key g eq).may_ask (by_key g eq).answers n j k
        → ComputesKey g key j.func → ComputesKey g key k.func
    key_computes_after j n k run =
        run_keeps _ _ (λ j. ComputesKey g key j.func)
        (λ j q b k i c. (keys_next (TakesAt g) (CalledAt g) key (ComputesKey g key) key_next eq j.func q.0 q.1 b k.func i c).1)
        j run.0 k run.1

    pub key_settled : (allowed : T × T → Type 0) (f : F) → ComputesKey g key f
        → Computes (by_key g eq).may_ask (by_key g eq).answers allowed (on_pairs (λ x y. eq (key x) (key y))) (key_judge f)
    key_settled allowed f h =
        answers_by _ _ allowed (on_pairs (λ x y. eq (key x) (key y))) (λ j. ComputesKey g key j.func)
        (λ j q b k i c. keys_next (TakesAt g) (CalledAt g) key (ComputesKey g key) key_next eq j.func q.0 q.1 b k.func i c)
        (key_judge f) h

-- functions that are asked about the elements of a list: comparators and key functions of searches
module _ {F T K : Type 0} (g : Mut F (Bor T × Unit {0}) K) where
  pub callable_on_elements : (xs : List T) (f : F) → always_mut g f → IsCallableOn g xs f
  callable_on_elements xs f h =
      may_ask_by _ _ (Contains xs) (always_mut g) (λ f x i ok v e. taken g f (v, tt) i)
      (λ f x k f' i ok c. always_next g f (c.shown, tt) k f' c.called i)
      f h

  pub computes_on_elements : (xs : List T) (answer : T → K) (f : F) → ComputesKey g answer f → ComputesOn g xs answer f
  computes_on_elements xs answer f h =
      answers_by _ _ (Contains xs) answer (ComputesKey g answer)
      (λ f x k f' i c.
      ((i.at ((c.shown, tt) ∷ []) k f' c.called).0 ∙ ap answer c.shows, record { at = λ xs. (i.at ((c.shown, tt) ∷ xs) k f' c.called).1 }))
      f h

  -- after a call on one of the elements it may be called on each
  pub callable_after_call : (xs : List T) (f : F) (x : T) (k : K) (f' : F) → CalledAt g f x k f' → IsCallableOn g xs f → Contains xs x
      → IsCallableOn g xs f'
  callable_after_call xs f x k f' c h ok rs t run all = h ((x, k) ∷ rs) t (h [] f refl tt x ok, (f', c, run)) (ok, all)

-- closures of characters, by value
module _ {P : Type 0} (g : Mut P (ℕ × (ℕ × Unit {0})) Bool) where
  pub char_predicate_callable : (cs : List ℕ) (f : P) → always_mut g f
      → IsCallableBy AreNeighbours (by_char_predicate g) (record { remainder = cs; judge = char_predicate_judge f })
  char_predicate_callable cs f h =
      may_ask_by _ _ (AreNeighbours cs) (λ j. always_mut g j.predicate)
      (λ j q i ok. taken g j.predicate (q.0, (q.1, tt)) i)
      (λ j q b k i ok c. always_next g j.predicate (q.0, (q.1, tt)) b k.predicate c i)
      (char_predicate_judge f) h

  pub char_predicate_settled : (p : ℕ → ℕ → Bool) (cs : List ℕ) (f : P) → ComputesOnChars g p f
      → ComputesBy AreNeighbours (by_char_predicate g) (record { remainder = cs; judge = char_predicate_judge f }) p
  char_predicate_settled p cs f h =
      answers_by _ _ (AreNeighbours cs) (on_pairs p) (λ j. ComputesOnChars g p j.predicate)
      (λ j q b k i c.
      ((i.at ((q.0, (q.1, tt)) ∷ []) b k.predicate c).0, record { at = λ xs. (i.at ((q.0, (q.1, tt)) ∷ xs) b k.predicate c).1 }))
      (char_predicate_judge f) h

module _ {F K : Type 0} (g : Mut F (ℕ × Unit {0}) K) (eq : K → K → Bool) where
  abbrev takes_char : F → ℕ → Type 0
  takes_char f c = Takes g f (c, tt)

  pub char_key_called : (f : F) (c : ℕ) (k : K) (f' : F) → CalledAtChar g f c k f' → always_mut g f → always_mut g f'
  char_key_called f c k f' d i = always_next g f (c, tt) k f' d i

  pub char_key_callable : (cs : List ℕ) (f : F) → always_mut g f
      → IsCallableBy AreNeighbours (by_char_key g eq) (record { remainder = cs; judge = char_key_judge f })
  char_key_callable cs f h =
      may_ask_by _ _ (AreNeighbours cs) (λ j. always_mut g j.func)
      (λ j q i ok. may_compare takes_char (CalledAtChar g) (always_mut g) char_key_called (λ f c i. taken g f (c, tt) i) j.func q i)
      (λ j q b k i ok c. compared_next takes_char (CalledAtChar g) (always_mut g) char_key_called eq j.func q.0 q.1 b k.func c i)
      (char_key_judge f) h

  pub char_key_callable_after : (j : CharKeyJudge F K) (n : ℕ) (k : CharKeyJudge F K)
      → IsRunOf (by_char_key g eq).may_ask (by_char_key g eq).answers n j k → always_mut g j.func → always_mut g k.func
  char_key_callable_after j n k run =
      run_keeps _ _ (λ j. always_mut g j.func)
      (λ j q b k i c. compared_next takes_char (CalledAtChar g) (always_mut g) char_key_called eq j.func q.0 q.1 b k.func c i)
      j run.0 k run.1

  pub char_key_taken : (f : F) (c : ℕ) → always_mut g f → Takes g f (c, tt)
  char_key_taken f c i = taken g f (c, tt) i

  module _ (key : ℕ → K) where
    pub char_key_next : (f : F) (c : ℕ) (k : K) (f' : F) → ComputesCharKey g key f → CalledAtChar g f c k f'
        → (k ≡ key c) × ComputesCharKey g key f'
    char_key_next f c k f' h d = ((h.at ((c, tt) ∷ []) k f' d).0, record { at = λ xs. (h.at ((c, tt) ∷ xs) k f' d).1 })

    pub char_key_computes_after : (j : CharKeyJudge F K) (n : ℕ) (k : CharKeyJudge F K)
        → IsRunOf (by_char_key g eq).may_ask (by_char_key g eq).answers n j k → ComputesCharKey g key j.func → ComputesCharKey g key k.func
    char_key_computes_after j n k run =
        run_keeps _ _ (λ j. ComputesCharKey g key j.func)
        (λ j q b k i c. (keys_next takes_char (CalledAtChar g) key (ComputesCharKey g key) char_key_next eq j.func q.0 q.1 b k.func i c).1)
        j run.0 k run.1

    pub char_key_settled : (cs : List ℕ) (f : F) → ComputesCharKey g key f
        → ComputesBy AreNeighbours (by_char_key g eq) (record { remainder = cs; judge = char_key_judge f }) (λ x y. eq (key x) (key y))
    char_key_settled cs f h =
        answers_by _ _ (AreNeighbours cs) (on_pairs (λ x y. eq (key x) (key y))) (λ j. ComputesCharKey g key j.func)
        (λ j q b k i c. keys_next takes_char (CalledAtChar g) key (ComputesCharKey g key) char_key_next eq j.func q.0 q.1 b k.func i c)
        (char_key_judge f) h
