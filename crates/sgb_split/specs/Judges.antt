-- What judges may be asked and what they answer. A question is a pair: of a linear call the left element first, of a binary or exponential
-- one the outermost.
use Rattle.std.specs.Prelude.{◌≡◌, ℕ, ◌+◌, ◌≤◌, Bool, true, List}
use Rattle.std.specs.List.{Contains}
use Rattle.std.specs.Borrow.{Bor}
use Rattle.std.specs.Fn.{Takes, TakesAt, TakesAtTwo, Called, CalledAt, CalledAtTwo, AlwaysReturns, Mut}
pub use Rattle.sgb_split.specs.Questions.{IsRun, IsRunOf, IsCallable, Computes}
use Rattle.sgb_split.specs.declared.judge.Judge.{Ghosts}
use Rattle.sgb_split.specs.declared.judge.PredicateJudge.{PredicateJudge}
use Rattle.sgb_split.specs.declared.judge.KeyJudge.{KeyJudge}
use Rattle.sgb_split.specs.declared.judge.CharPredicateJudge.{CharPredicateJudge}
use Rattle.sgb_split.specs.declared.judge.CharKeyJudge.{CharKeyJudge}
use Rattle.sgb_split.specs.declared.judge.EqualityJudge.{EqualityJudge}

-- some number of questions was asked from q to r: at most what is due at q less what is due at r, and just that number where exact
pub record AsksWithin {Q : Type 0} (asked : Q → Q → ℕ → Type 0) (due : Q → ℕ) (exact : Bool) (q r : Q) : Type 0 where
  pub number : ℕ
  pub asks : asked q r number
  pub most : number + due r ≤ due q
  pub all : exact ≡ true → number + due r ≡ due q

-- by predicate: one call
abbrev pub by_predicate : {P T : Type 0} → Mut P (Bor T × (Bor T × Unit {0})) Bool → Ghosts (PredicateJudge P) T
by_predicate g = record {
  may_ask = λ j q. TakesAtTwo g j.predicate q.0 q.1;
  answers = λ j q b k. CalledAtTwo g j.predicate q.0 q.1 b k.predicate;
}

abbrev pub predicate_judge : {P : Type 0} → P → PredicateJudge P
predicate_judge predicate = record { predicate = predicate }

-- takes f x: the key function may be called at x; calls f x k f': that call may give k, and leaves f'
module _ {F T K : Type 0} (takes : F → T → Type 0) (calls : F → T → K → F → Type 0) where
  -- the two calls for the keys may be made, the second wherever the first leads
  abbrev pub MayCompareKeys : F → T × T → Type 0
  MayCompareKeys f q = takes f q.0 × ((k : K) (f' : F) → calls f q.0 k f' → takes f' q.1)

-- a call for the key of the first element, then one for that of the second, and b is what eq says of the keys
pub record ComparesKeys {F T K : Type 0} (calls : F → T → K → F → Type 0) (eq : K → K → Bool) (f : F) (first second : T) (b : Bool)
    (f' : F) : Type 0 where
  pub state_between : F
  pub first_key : K
  pub second_key : K
  pub first_call : calls f first first_key state_between
  pub second_call : calls state_between second second_key f'
  pub compared : b ≡ eq first_key second_key

-- by key: two calls, and the keys compared
abbrev pub by_key : {F K T : Type 0} → Mut F (Bor T × Unit {0}) K → (K → K → Bool) → Ghosts (KeyJudge F K) T
by_key g eq = record {
  may_ask = λ j q. MayCompareKeys (TakesAt g) (CalledAt g) j.func q;
  answers = λ j q b k. ComparesKeys (CalledAt g) eq j.func q.0 q.1 b k.func;
}

abbrev pub key_judge : {F K : Type 0} → F → KeyJudge F K
key_judge func = record { func = func; key = record {} }

-- by equality: the answer is what eq says, and the question is counted
abbrev pub by_equality : {T : Type 0} → (T → T → Bool) → Ghosts EqualityJudge T
by_equality eq = record {
  may_ask = λ _ _. Unit {0};
  answers = λ j q b k. (b ≡ eq q.0 q.1) × (k.asked ≡ j.asked + 1);
}

-- a function of elements: a comparator, or a key function
module _ {F T K : Type 0} (g : Mut F (Bor T × Unit {0}) K) (xs : List T) where
  -- in every state that its answers can lead to, f may be called on each element
  abbrev pub IsCallableOn : F → Type 0
  IsCallableOn f = IsCallable (TakesAt g) (CalledAt g) (Contains xs) f

  -- and there it answers what h gives
  abbrev pub ComputesOn : (T → K) → F → Type 0
  ComputesOn h f = Computes (TakesAt g) (CalledAt g) (Contains xs) h f

-- Closures that take characters by value: a character is its code.

-- a call at the character c
abbrev pub CalledAtChar : {F K : Type 0} → Mut F (ℕ × Unit {0}) K → F → ℕ → K → F → Type 0
CalledAtChar g f c k f' = Called g f (c, tt) k f'

-- by predicate of two characters: one call
abbrev pub by_char_predicate : {P : Type 0} → Mut P (ℕ × (ℕ × Unit {0})) Bool → Ghosts (CharPredicateJudge P) ℕ
by_char_predicate g = record {
  may_ask = λ j q. Takes g j.predicate (q.0, (q.1, tt));
  answers = λ j q b k. Called g j.predicate (q.0, (q.1, tt)) b k.predicate;
}

abbrev pub char_predicate_judge : {P : Type 0} → P → CharPredicateJudge P
char_predicate_judge predicate = record { predicate = predicate }

-- by key of a character: two calls, and the keys compared
abbrev pub by_char_key : {F K : Type 0} → Mut F (ℕ × Unit {0}) K → (K → K → Bool) → Ghosts (CharKeyJudge F K) ℕ
by_char_key g eq = record {
  may_ask = λ j q. MayCompareKeys (λ f c. Takes g f (c, tt)) (CalledAtChar g) j.func q;
  answers = λ j q b k. ComparesKeys (CalledAtChar g) eq j.func q.0 q.1 b k.func;
}

abbrev pub char_key_judge : {F K : Type 0} → F → CharKeyJudge F K
char_key_judge func = record { func = func; key = record {} }

-- each call from f on, at two characters, answers what p gives
abbrev pub ComputesOnChars : {P : Type 0} → Mut P (ℕ × (ℕ × Unit {0})) Bool → (ℕ → ℕ → Bool) → P → Type 0
ComputesOnChars g p = AlwaysReturns g (λ a r. r ≡ p a.0 a.1.0)

-- each call from f on, at a character, answers what key gives
abbrev pub ComputesCharKey : {F K : Type 0} → Mut F (ℕ × Unit {0}) K → (ℕ → K) → F → Type 0
ComputesCharKey g key = AlwaysReturns g (λ a r. r ≡ key a.0)
