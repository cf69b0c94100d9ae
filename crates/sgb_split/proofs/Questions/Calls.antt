-- Of calls, whatever they ask.
use Rattle.std.proofs.Common.{◌≡◌, ℕ, ◌+◌, ◌<◌, Bool, List, [], ◌++◌, length, Option, None, Some, refl, sym, ap, subst, ◌∙◌, arith}
use Rattle.std.specs.List.{AllByRecursion}
use Rattle.std.specs.Prelude.{option_map}
use Rattle.sgb_split.specs.declared.end.End.{End}
use Rattle.sgb_split.specs.declared.end.End.TheVariants.{Front}
use Rattle.sgb_split.specs.declared.judge.Judge.{Ghosts}
use Rattle.sgb_split.specs.Judges.{IsRun, IsRunOf, AsksWithin}
use Rattle.sgb_split.specs.Split.{put_at, TakesPart, on_pairs}
use Rattle.sgb_split.specs.Calls.{Groups, CallAt, IsCallableBy, ComputesBy}
use Rattle.sgb_split.proofs.Questions.Runs.{may_after, answers_after}

some : {T : Type 0} (xs : List T) → 0 < length xs → xs ≡ [] → ⊥
some xs l e = omega (arith, l, ap length e)

module _ {T J : Type 0} (asks : End → List T → ℕ → J → J → Type 0) where
  pub part : (e : End) (s : Groups T J) (r : Option (List T)) (t : Groups T J) → CallAt asks e s r t
      → TakesPart e s.remainder r t.remainder
  part e s None t h = (h.0, ap (λ u. u.remainder) h.1 ∙ h.0)
  part e s (Some x) t h = (some x h.nonempty, h.cut)

-- from j to k the judge was asked allowed questions
pub record AsksAllowed {T J : Type 0} (g : Ghosts J T) (allowed : T × T → Type 0) (j k : J) : Type 0 where
  pub questions : List ((T × T) × Bool)
  pub run : IsRun g.may_ask g.answers j questions k
  pub about : AllByRecursion (λ r. allowed r.0) questions

-- where calls ask allowed questions, and what is allowed of the rest was allowed of the whole
module _ {T J : Type 0} (g : Ghosts J T) (allowed : List T → T × T → Type 0)
    (of_rest : (e : End) (part rest : List T) (q : T × T) → allowed rest q → allowed (put_at e part rest) q)
    (asks : End → List T → ℕ → J → J → Type 0)
    (asked : (e : End) (xs : List T) (n : ℕ) (j k : J) → asks e xs n j k → AsksAllowed g (allowed xs) j k) where
  -- what may be asked before a call may be asked after it
  pub keeps : (e : End) (s : Groups T J) (r : Option (List T)) (t : Groups T J) → CallAt asks e s r t
      → IsCallableBy allowed g s → IsCallableBy allowed g t
  keeps e s None t h may = subst (IsCallableBy allowed g) (sym h.1) may
  keeps e s (Some x) t h may =
      let a = asked e _ _ _ _ h.asked in
      may_after _ _ (allowed s.remainder) (allowed t.remainder) (λ q n. rw h.cut (of_rest e x t.remainder q n)) s.judge a.questions t.judge
      a.run a.about may

  -- and still has the answer that the test says
  pub computes_on : (p : T → T → Bool) (e : End) (s : Groups T J) (r : Option (List T)) (t : Groups T J) → CallAt asks e s r t
      → ComputesBy allowed g s p → ComputesBy allowed g t p
  computes_on p e s None t h by = subst (λ (u : Groups T J). ComputesBy allowed g u p) (sym h.1) by
  computes_on p e s (Some x) t h by =
      let a = asked e _ _ _ _ h.asked in
      answers_after _ _ (allowed s.remainder) (allowed t.remainder) (λ q n. rw h.cut (of_rest e x t.remainder q n)) (on_pairs p) s.judge
      a.questions t.judge a.run a.about by

-- behind some elements may be asked what may be asked of all, and it still has the answer that the test says
module _ {T J : Type 0} (g : Ghosts J T) (allowed : List T → T × T → Type 0)
    (of_rest : (e : End) (part rest : List T) (q : T × T) → allowed rest q → allowed (put_at e part rest) q)
    (before rest : List T) (j : J) where
  pub callable_behind : IsCallableBy allowed g (record { remainder = before ++ rest; judge = j })
      → IsCallableBy allowed g (record { remainder = rest; judge = j })
  callable_behind = may_after _ _ (allowed (before ++ rest)) (allowed rest) (of_rest Front before rest) j [] j refl tt

  pub computes_behind : (p : T → T → Bool) → ComputesBy allowed g (record { remainder = before ++ rest; judge = j }) p
      → ComputesBy allowed g (record { remainder = rest; judge = j }) p
  computes_behind p = answers_after _ _ (allowed (before ++ rest)) (allowed rest) (of_rest Front before rest) (on_pairs p) j [] j refl tt

-- nothing was asked
pub nothing_asked : {T J : Type 0} (g : Ghosts J T) (due : Groups T J → ℕ) (exact : Bool) (s t : Groups T J) → t ≡ s
    → AsksWithin (λ q r n. IsRunOf g.may_ask g.answers n q.judge r.judge) due exact s t
nothing_asked g due exact s t e =
    record { number = 0; asks = ([], ap (λ u. u.judge) e, refl); most = omega (arith, ap due e); all = λ _. omega (arith, ap due e) }

-- what holds of an answer that is read twice holds of it read once
pub read_at_once : {X Y Z : Type 0} (P : Option Z → Type 0) (f : Y → Z) (g : X → Y) (o : Option X) → P (option_map f (option_map g o))
    → P (option_map (λ x. f (g x)) o)
read_at_once P f g None h = h
read_at_once P f g (Some x) h = h

-- what is asked between two states is asked between what shows them
pub asks_seen : {A Q : Type 0} (asked : A → A → ℕ → Type 0) (due : A → ℕ) (exact : Bool) (seen : Q → A) (s t : Q)
    → AsksWithin asked due exact (seen s) (seen t) → AsksWithin (λ q r. asked (seen q) (seen r)) (λ q. due (seen q)) exact s t
asks_seen asked due exact seen s t h = record { number = h.number; asks = h.asks; most = h.most; all = h.all }

-- questions within what is due add up
module _ {Q : Type 0} (asked : Q → Q → ℕ → Type 0) (due : Q → ℕ) (exact : Bool) where
  pub asks_nothing : ((q : Q) → asked q q 0) → (q : Q) → AsksWithin asked due exact q q
  asks_nothing none q = record { number = 0; asks = none q; most = omega arith; all = λ e. omega arith }

  pub asks_add : ((q r t : Q) (k m : ℕ) → asked q r k → asked r t m → asked q t (k + m)) → (q r t : Q)
      → AsksWithin asked due exact q r → AsksWithin asked due exact r t → AsksWithin asked due exact q t
  asks_add more q r t a b = record {
    number = a.number + b.number;
    asks = more q r t a.number b.number a.asks b.asks;
    most = omega (arith, a.most, b.most);
    all = λ e. omega (arith, a.all e, b.all e);
  }
