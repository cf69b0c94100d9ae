-- What a binary or exponential call asks: about its outermost element and others, and not about each neighbouring pair; and what
-- halving and galloping over places say of their runs.
use Rattle.std.specs.Prelude.{ℕ, ◌/◌, ◌≡◌, ◌≢◌, ◌+◌, ◌-◌, ◌*◌, ◌<◌, ◌≤◌, Bool, true, false, List, [], ◌∷◌, ◌++◌, length, map, ◌⊎◌, Result, Ok, Err, Option, Some, slice_get}
use Rattle.std.proofs.Common.{zero, suc}
use Rattle.std.specs.List.{AllByRecursion, Contains}
use Rattle.std.specs.declared.cmp.Ordering.{Ordering}
use Rattle.std.specs.declared.cmp.Ordering.TheVariants.{Less, Equal, Greater}
use Rattle.sgb_split.specs.declared.end.End.{End}
use Rattle.sgb_split.specs.declared.judge.Judge.{Ghosts}
use Rattle.sgb_split.specs.Judges.{IsRun}
use Rattle.sgb_split.specs.Split.{from, AreApart, IsGrouped}
use Rattle.sgb_split.specs.Calls.{Groups, ComputesBy}

-- the number of binary digits of an m that has at most `most` of them: none for 0, and else one more than those of m / 2
abbrev pub digits_within : ℕ → ℕ → ℕ
digits_within zero m = 0
digits_within (suc most) zero = 0
digits_within (suc most) (suc m) = suc (digits_within most (suc m / 2))

-- the number of binary digits of m, which is the least d with m < 2 ^ d
unfoldable pub digits : ℕ → ℕ
digits m = digits_within m m

-- what a way to search for the end of a group may ask
pub record SearchCost : Type 0 where
  -- the most questions of a call that takes g of n elements
  pub call : ℕ → ℕ → ℕ
  -- the most questions of all calls on n elements
  pub walk : ℕ → ℕ
  -- both answers may come about one element at the end of the group
  pub may_contradict : Bool

-- by halving the places beside the outermost element
abbrev pub binary : SearchCost
binary = record { call = λ n g. digits (n - 1); walk = λ n. n * digits n; may_contradict = false }

-- by galloping over them from the outermost element on
abbrev pub exponential : SearchCost
exponential = record { call = λ n g. 2 * digits g + 1; walk = λ n. 3 * n; may_contradict = true }

-- m questions are within the cost of a call that takes g of n elements, and no more than it takes off the cost of all calls
pub record IsWithin (cost : SearchCost) (n g m : ℕ) : Type 0 where
  pub call : m ≤ cost.call n g
  pub walk : m + cost.walk (n - g) ≤ cost.walk n

-- A search over places: a question compares a place with what is sought, and its answer is read as an ordering. `Ok` gives a place that is
-- Equal, `Err` one that Less comes before and Greater from there on.

-- i is one of the places from low up to, not including, high
abbrev pub IsBetween : ℕ → ℕ → ℕ → Type 0
IsBetween low high i = (low ≤ i) × (i < high)

-- the place of an answer
abbrev pub answer_place : Result ℕ ℕ → ℕ
answer_place (Ok i) = i
answer_place (Err i) = i

-- answered i o: place i is answered o
module _ (answered : ℕ → Ordering → Type 0) where
  -- i is low, or the place before it is answered Less
  abbrev pub IsLowEnd : ℕ → ℕ → Type 0
  IsLowEnd low i = (i ≡ low) ⊎ ((low < i) × answered (i - 1) Less)

  -- i is high, or is itself answered Greater
  abbrev pub IsHighEnd : ℕ → ℕ → Type 0
  IsHighEnd high i = (i ≡ high) ⊎ ((i < high) × answered i Greater)

  -- place i is answered in two ways
  abbrev pub Contradicts : ℕ → Type 0
  Contradicts i = (a : Ordering) × (b : Ordering) × answered i a × answered i b × (a ≢ b)

  -- both ends are at i; where answers may contradict each other, an end may be unknown, and then two came about the place on its other
  -- side
  pub record TellsBoundary (both : Bool) (low high i : ℕ) : Type 0 where
    pub low_end : IsLowEnd low i ⊎ ((both ≡ true) × Contradicts i)
    pub high_end : IsHighEnd high i ⊎ ((both ≡ true) × ((low < i) × Contradicts (i - 1)))

-- qs: the places that were asked about, each with its answer; reads: the answer as an ordering
module _ {A : Type 0} (reads : A → Ordering) (qs : List (ℕ × A)) where
  abbrev pub WasAnswered : ℕ → Ordering → Type 0
  WasAnswered i o = (a : A) × Contains qs (i, a) × (reads a ≡ o)

  -- what an answer tells: of `Ok`, that the last question was about that place and was answered Equal; of `Err`, the boundary
  abbrev pub Tells : Bool → ℕ → ℕ → Result ℕ ℕ → Type 0
  Tells both low high (Ok i) =
      IsBetween low high i × ((front : List (ℕ × A)) × (a : A) × (qs ≡ front ++ (i, a) ∷ []) × (reads a ≡ Equal))
  Tells both low high (Err i) = (low ≤ i) × (i ≤ high) × TellsBoundary WasAnswered both low high i

-- may s i: in the state s the place i may be asked about; gives s i a t: the answer may be a, and then the state is t
module _ {S A : Type 0} (may : S → ℕ → Type 0) (gives : S → ℕ → A → S → Type 0) (reads : A → Ordering) where
  -- a search of the places from low up to high that gives r: its questions, each about one of them, their number, and what r tells
  pub record IsPlaceSearch (cost : SearchCost) (low high : ℕ) (s : S) (r : Result ℕ ℕ) (t : S) : Type 0 where
    pub questions : List (ℕ × A)
    pub run : IsRun may gives s questions t
    pub places : AllByRecursion (λ q. IsBetween low high q.0) questions
    pub most : IsWithin cost (high - low + 1) (answer_place r - low + 1) (length questions)
    pub tells : Tells reads questions cost.may_contradict low high r

  -- the ends between which galloping over the places from start up to stop halves: low was answered Less, and high was not
  pub record IsBracket (start stop : ℕ) (s : S) (low high : ℕ) (t : S) : Type 0 where
    pub questions : List (ℕ × A)
    pub run : IsRun may gives s questions t
    pub places : AllByRecursion (λ q. IsBetween start stop q.0) questions
    pub after : start ≤ low
    pub order : low ≤ high
    pub within : high ≤ stop
    pub nonempty : high ≤ low → stop ≤ start
    pub most : length questions + digits (high + 1 - low) ≤ 2 * digits (low - start + 1) + 1
    pub low_end : (low ≡ start) ⊎ WasAnswered reads questions low Less
    pub high_end : (high ≡ stop) ⊎ ((high < stop) × ((o : Ordering) × WasAnswered reads questions high o × (o ≢ Less)))

-- zs: the question about each place
module _ {S Q A : Type 0} (may : S → Q → Type 0) (gives : S → Q → A → S → Type 0) (zs : List Q) where
  -- there is a place i, and the question about it may be asked
  abbrev pub MayAskAt : S → ℕ → Type 0
  MayAskAt s i = (i < length zs) × ((q : Q) → slice_get zs i ≡ Some q → may s q)

  -- it was asked, and answered so
  abbrev pub AnsweredAt : S → ℕ → A → S → Type 0
  AnsweredAt s i a t = (q : Q) × (slice_get zs i ≡ Some q) × gives s q a t

  -- the questions about the places of rs, in the order in which they were asked, with their answers: each is allowed
  pub record QuestionsAt (allowed : Q → Type 0) (s : S) (rs : List (ℕ × A)) (t : S) : Type 0 where
    pub questions : List (Q × A)
    pub run : IsRun may gives s questions t
    pub in_order : map {B = Option Q × A} (λ q. (Some q.0, q.1)) questions ≡ map (λ r. (slice_get zs r.0, r.1)) rs
    pub long : length questions ≡ length rs
    pub about : AllByRecursion (λ q. allowed q.0) questions
    pub beside : AllByRecursion (λ r. (q : Q) × (slice_get zs r.0 ≡ Some q) × Contains questions (q, r.1)) rs

  -- a search of the places from low on
  abbrev pub Searches : (A → Ordering) → SearchCost → ℕ → S → Result ℕ ℕ → S → Type 0
  Searches reads cost low s r t = IsPlaceSearch MayAskAt AnsweredAt reads cost low (length zs) s r t

-- two sides of a place: what is accepted lies before it
abbrev pub as_ordering : Bool → Ordering
as_ordering true = Less
as_ordering false = Greater

-- the pairs of one element with each of others
abbrev pub beside : {A B : Type 0} → A → List B → List (A × B)
beside x ys = map (λ y. (x, y)) ys

-- xs: the remainder as it reads from the call's end on, the outermost element first
module _ {T : Type 0} where
  -- the questions of a call: the outermost element with each of the others
  abbrev pub outward : List T → List (T × T)
  outward [] = []
  outward (x ∷ xs) = beside x xs

module _ {T : Type 0} (xs : List T) where
  -- by p the first g elements, one or more, end at a local boundary: the innermost agrees with the outermost, and the element beyond does
  -- not
  pub record IsLocalEnd (p : T → T → Bool) (g : ℕ) : Type 0 where
    pub nonempty : 0 < g
    pub within : g ≤ length xs
    pub inner : (x y : T) → 1 < g → slice_get xs 0 ≡ Some x → slice_get xs (g - 1) ≡ Some y → p x y ≡ true
    pub beyond : (x y : T) → slice_get xs 0 ≡ Some x → slice_get xs g ≡ Some y → p x y ≡ false

module _ {T J : Type 0} (g : Ghosts J T) where
  -- each answer to questions about two different places of what remains is what p says, and what remains is grouped for p
  pub record IsSettledApart (s : Groups T J) (p : T → T → Bool) : Type 0 where
    pub computes : ComputesBy AreApart g s p
    pub grouped : IsGrouped p s.remainder

  -- the search of a call that takes n elements, which read from the call's end: all but the outermost are found
  abbrev pub SearchQuestions : SearchCost → End → List T → ℕ → J → J → Type 0
  SearchQuestions cost e xs n j k = Searches g.may_ask g.answers (outward (from e xs)) as_ordering cost 0 j (Err (n - 1)) k
