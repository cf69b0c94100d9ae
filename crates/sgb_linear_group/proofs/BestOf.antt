-- What is kept of one element more and of one group more, what it is where the test computes, and an element that is swapped to the others.
use Rattle.std.proofs.Common.{◌≡◌, ℕ, zero, suc, ◌+◌, ◌-◌, ◌<◌, ◌≤◌, Bool, cond, List, []}
use Rattle.std.proofs.Common.{◌∷◌, ◌++◌, length, take, drop, get_or, Option, Some}
use Rattle.std.proofs.Common.{refl, sym, subst, ap, ◌∙◌, arith}
use Rattle.std.specs.Prelude.{slice_get, slice_range, slice_set}
use Rattle.std.specs.Borrow.{Bor}
use Rattle.std.specs.Fn.{Mut, CalledAtTwo, ComputesOnPairs}
use Rattle.std.specs.Iterator.{Yields}
use Rattle.std.specs.List.{SwappedAt}
use Rattle.std.proofs.lemmas.List.{drop-drop, drop-set-lt, get_or-drop, length-drop, length-take-le}
use Rattle.std.proofs.lemmas.List.{take-append-drop, take-set-le, take_more}
use Rattle.std.proofs.lemmas.Option.{get_or_from_slice_get, slice_get_within}
use Rattle.sgb_split.specs.Calls.{Groups, CallAt, IsGroupAt}
use Rattle.sgb_split.specs.Linear.{IsSettled, LinearQuestions}
use Rattle.sgb_split.specs.Split.{first, without_first, split}
use Rattle.sgb_split.specs.declared.end.End.{End}
use Rattle.sgb_split.specs.declared.end.End.TheVariants.{Front}
use Rattle.sgb_split.specs.declared.judge.Judge.{Ghosts}
use Rattle.sgb_split.proofs.Linear.LinearQueue.{piece}
use Rattle.sgb_split.proofs.Questions.Closures.{computes_next}
use Rattle.sgb_linear_group.specs.Best.{AreKept, Keeps, KeepsFrom, KeepsOfEach, best_from, best_of_each}

pub stands_at : {X : Type 0} (xs : List X) (i : ℕ) → i < length xs → (x : X) × (slice_get xs i ≡ Some x)
stands_at [] i l = absurd (omega (arith, l))
stands_at (x ∷ xs) zero l = (x, refl)
stands_at (x ∷ xs) (suc i) l = stands_at xs i (omega (arith, l))

pub range_more : {X : Type 0} (xs : List X) (low i : ℕ) (y : X) → low ≤ i → slice_get xs i ≡ Some y
    → slice_range xs low (i + 1) ≡ slice_range xs low i ++ y ∷ []
range_more xs low i y l at =
    let inside = slice_get_within xs i y at in
    let n : i + 1 - low ≡ i - low + 1 = omega (arith, l) in
    let is : get_or (drop low xs) (i - low) y ≡ y =
    get_or-drop low xs (i - low) y ∙ ap (λ (k : ℕ). get_or xs k y) {x = low + (i - low)} {y = i} (omega (arith, l))
    ∙ get_or_from_slice_get xs i y y at in
    ap (λ (k : ℕ). take k (drop low xs)) n ∙ take_more (drop low xs) (i - low) y (omega (arith, l, inside, length-drop low xs))
    ∙ ap (λ k. slice_range xs low i ++ k ∷ []) is

pub range_of_one : {X : Type 0} (xs : List X) (low : ℕ) (x : X) → slice_get xs low ≡ Some x → slice_range xs low (low + 1) ≡ x ∷ []
range_of_one xs low x at =
    let none : slice_range xs low low ≡ [] = ap (λ (n : ℕ). take n (drop low xs)) {x = low - low} {y = 0} (omega arith) in
    range_more xs low low x (omega arith) at ∙ ap (λ l. l ++ x ∷ []) none

pub yields_more : {S A : Type 0} (steps : S → Option A → S → Type 0) (s : S) (xs : List A) (t : S) (x : A) (u : S) → Yields steps s xs t
    → steps t (Some x) u → Yields steps s (xs ++ x ∷ []) u
yields_more steps s [] t x u e c = (u, subst (λ v. steps v (Some x) u) (sym e) c, refl)
yields_more steps s (y ∷ ys) t x u h c = (h.0, h.1, yields_more steps h.0 ys t x u h.2 c)

module _ {T F : Type 0} (compares : F → T → T → Bool → F → Type 0) where
  from_more : (f : F) (x : T) (xs : List T) (k : T) (t : F) (y : T) (b : Bool) (u : F) → KeepsFrom compares f x xs k t → compares t k y b u
      → KeepsFrom compares f x (xs ++ y ∷ []) (cond b y k) u
  from_more f x [] k t y b u h c = rw (← h.0, ← h.1) (b, (u, c, (refl, refl)))
  from_more f x (z ∷ xs) k t y b u h c = (h.0, (h.1.0, h.1.1, from_more h.1.0 (cond h.0 z x) xs k t y b u h.1.2 c))

  pub keeps_more : (f : F) (xs : List T) (k : T) (t : F) (y : T) (b : Bool) (u : F) → Keeps compares f xs k t → compares t k y b u
      → Keeps compares f (xs ++ y ∷ []) (cond b y k) u
  keeps_more f [] k t y b u h c = absurd h
  keeps_more f (x ∷ xs) k t y b u h c = from_more f x xs k t y b u h c

  pub each_more : (f : F) (groups : List (List T)) (ks : List T) (t : F) (group : List T) (k : T) (u : F)
      → KeepsOfEach compares f groups ks t → Keeps compares t group k u → KeepsOfEach compares f (groups ++ group ∷ []) (ks ++ k ∷ []) u
  each_more f [] [] t group k u h keeps = (u, subst (λ v. Keeps compares v group k u) h keeps, refl)
  each_more f [] (j ∷ js) t group k u h keeps = absurd h
  each_more f (one ∷ groups) [] t group k u h keeps = absurd h
  each_more f (one ∷ groups) (j ∷ js) t group k u h keeps = (h.0, h.1, each_more h.0 groups js t group k u h.2 keeps)

module _ {T F : Type 0} (g : Mut F (Bor T × (Bor T × Unit {0})) Bool) (b : T → T → Bool) where
  from_computed : (f : F) (x : T) (xs : List T) (k : T) (t : F) → ComputesOnPairs g b f → KeepsFrom (CalledAtTwo g) f x xs k t
      → (k ≡ best_from b x xs) × ComputesOnPairs g b t
  from_computed f x [] k t c h = (h.0, subst (λ v. ComputesOnPairs g b v) (sym h.1) c)
  from_computed f x (y ∷ ys) k t c h =
      let now = computes_next g b f x y h.0 h.1.0 c h.1.1 in
      let later = from_computed h.1.0 (cond h.0 y x) ys k t now.1 h.1.2 in
      (later.0 ∙ ap (λ a. best_from b (cond a y x) ys) now.0, later.1)

  each_computed : (f : F) (groups : List (List T)) (ks : List T) (t : F) → ComputesOnPairs g b f
      → KeepsOfEach (CalledAtTwo g) f groups ks t → ks ≡ best_of_each b groups
  each_computed f [] [] t c h = refl
  each_computed f [] (k ∷ ks) t c h = absurd h
  each_computed f (group ∷ groups) [] t c h = absurd h
  each_computed f ([] ∷ groups) (k ∷ ks) t c h = absurd h.1
  each_computed f ((x ∷ xs) ∷ groups) (k ∷ ks) t c h =
      let now = from_computed f x xs k h.0 c h.1 in
      let later = each_computed h.0 groups ks t now.1 h.2 in
      (λ i. now.0 i ∷ later i)

-- what begins with a piece
first_and_others : {X : Type 0} (xs ys : List X) (x : X) → Some x ≡ first xs → ys ≡ without_first xs → xs ≡ x ∷ ys
first_and_others [] ys x e f = cc e
first_and_others (y ∷ xs) ys x e f = let same : y ≡ x = cc e in (λ i. same i ∷ sym f i)

module _ {T J : Type 0} (g : Ghosts J T) (p : T → T → Bool) where
  walked_pieces : (s : Groups T J) (groups : List (List T)) (t : Groups T J) → IsSettled g s p
      → Yields (CallAt (LinearQuestions g) Front) s groups t → t.remainder ≡ [] → groups ≡ split p s.remainder
  walked_pieces s [] t m e none = rw (e, none) refl
  walked_pieces s (group ∷ groups) t m h none =
      let taken = piece g Front s (Some group) h.0 p h.1 m in
      ap (λ l. group ∷ l) (walked_pieces h.0 groups t taken.1 h.2 none) ∙ sym (first_and_others _ _ group taken.0.0 taken.0.1)

  pub kept_are_best : {F : Type 0} (f : F) (mut : Mut F (Bor T × (Bor T × Unit {0})) Bool) (b : T → T → Bool) (s : Groups T J)
      (kept : List T) → AreKept (CalledAtTwo mut) g s f kept → IsSettled g s p → ComputesOnPairs mut b f
      → kept ≡ best_of_each b (split p s.remainder)
  kept_are_best f mut b s kept h m c =
      each_computed mut b f h.groups kept h.last c h.compared
      ∙ ap (best_of_each b) (walked_pieces s h.groups h.walked.1.0 m h.walked.1.1 h.walked.1.2.0)

module _ {T : Type 0} (ys zs : List T) (kept place : ℕ) (order : kept ≤ place) (inside : place < length ys)
    (swapped : SwappedAt ys zs kept place) (k : T) (at : slice_get ys place ≡ Some k) where
  set_is : zs ≡ slice_set (slice_set ys kept (get_or ys place k)) place (get_or ys kept k)
  set_is = swapped.3 k

  pub swapped_kept : kept < length zs → take (kept + 1) zs ≡ take kept ys ++ k ∷ []
  swapped_kept room =
      let before : take kept zs ≡ take kept ys =
      ap (take kept) set_is ∙ take-set-le kept _ place _ order ∙ take-set-le kept ys kept _ (omega arith) in
      take_more zs kept k room
      ∙ (λ i. before i ++ (swapped.0 k ∙ get_or_from_slice_get ys place k k at) i ∷ [])

  pub swapped_rest : (end : ℕ) → place < end → drop end zs ≡ drop end ys
  swapped_rest end behind =
      ap (drop end) set_is ∙ drop-set-lt end _ place _ behind ∙ drop-set-lt end ys kept _ (omega (arith, order, behind))

-- a call on the elements from a place on takes the first n of them, and leaves those behind
pub call_at : {T J : Type 0} (asks : End → List T → ℕ → J → J → Type 0) (xs part : List T) (rest n : ℕ) (j k : J) → part ≡ drop rest xs
    → 0 < n → n ≤ length part → asks Front part n j k
    → IsGroupAt asks Front (record { remainder = drop rest xs; judge = j }) (take n (drop rest xs))
    (record { remainder = drop (rest + n) xs; judge = k })
call_at asks xs part rest n j k is some room asked =
    let long : length (take n (drop rest xs)) ≡ n = length-take-le n (drop rest xs) (omega (arith, room, ap length is)) in
    record {
      nonempty = omega (arith, long, some);
      cut =
          sym (take-append-drop n (drop rest xs)) ∙ ap (λ l. take n (drop rest xs) ++ l) (drop-drop n rest xs);
      asked = rw (long, ← is) asked;
    }
