-- How many questions calls ask at one end, and what a search does to a counter.
use Rattle.std.proofs.Common.{◌≡◌, ℕ, ◌+◌, ◌-◌, ◌*◌, ◌≤◌, Bool, List, [], ◌∷◌, length, Option, Some, subst, ap, refl, arith}
use Rattle.std.proofs.Math.Nat.{mul-le-mul_left}
use Rattle.std.specs.Iterator.{Yields}
use Rattle.std.specs.Iterator.Adapters.{map_source}
use Rattle.std.specs.declared.iter.Map.{Map}
use Rattle.std.proofs.lemmas.Iterator.{maps}
use denote.Param.Members.{Mut}
use Rattle.std.specs.Borrow.{Bor}
use Rattle.std.specs.Fn.{TakesAt, CalledAt}
use Rattle.std.specs.Prelude.{Result}
use Rattle.std.specs.declared.cmp.Ordering.{Ordering}
use Rattle.sgb_search.specs.Search.{IsSearch}
use Rattle.sgb_search.specs.Searching.{digits, answer_place, MayAskAt, AnsweredAt}
use Rattle.sgb_split.specs.Judges.{AsksWithin}
use Rattle.sgb_split.proofs.Questions.Calls.{asks_nothing, asks_add}
use Rattle.sgb_split.proofs.Questions.Counting.{counts_most}

-- a search of a slice raises a number that each call raises by at most so much
pub search_raises : {F T K : Type 0} (g : Mut F (Bor T × Unit {0}) K) (count name : F → ℕ) (each : ℕ)
    → ((s u : F) (x : T) (k : K) → CalledAt g s x k u → (name u ≡ name s) × (count u ≤ count s + each)) → (reads : K → Ordering) (xs : List T)
    (f t : F) (r : Result ℕ ℕ) → IsSearch g xs reads f r t
    → (name t ≡ name f) × (count t ≤ count f + each * (2 * digits (answer_place r + 1) + 1))
search_raises g count name each step reads xs f t r h =
    let k = counts_most (MayAskAt (TakesAt g) (CalledAt g) xs) (AnsweredAt (TakesAt g) (CalledAt g) xs) count name each
    (λ s u i a called. step s u called.0 a called.2) (length h.questions) f t (h.questions, h.run, refl) in
    let same : digits (answer_place r - 0 + 1) ≡ digits (answer_place r + 1) = ap digits {x = answer_place r - 0 + 1} {y = answer_place r + 1} (omega arith) in
    let most : length h.questions ≤ 2 * digits (answer_place r + 1) + 1 = omega (arith, h.most.call, same) in
    (k.0, omega (arith, k.1, mul-le-mul_left each most))

-- calls at one end, from what one call asks
module _ {Q I : Type 0} (steps : Q → Option I → Q → Type 0) (asked : Q → Q → ℕ → Type 0) (due : Q → ℕ) (exact : Bool)
    (none : (q : Q) → asked q q 0) (more : (q r t : Q) (k m : ℕ) → asked q r k → asked r t m → asked q t (k + m))
    (asks : (q : Q) (o : Option I) (t : Q) → steps q o t → AsksWithin asked due exact q t) where
  pub yields_ask : (q t : Q) (xs : List I) → Yields steps q xs t → AsksWithin asked due exact q t
  yields_ask q t [] y =
      subst (λ x. AsksWithin asked due exact q x) y (asks_nothing asked due exact none q)
  yields_ask q t (x ∷ xs) y = asks_add asked due exact more q y.0 t (asks q (Some x) y.0 y.1) (yields_ask y.0 t xs y.2)

pub yields_map : {S A F R : Type 0} (steps : S → Option A → S → Type 0) (g : Mut F (A × Unit {0}) R) (s : Map S F) (ys : List R)
    (t : Map S F)
    → Yields (maps steps g) s ys t → (xs : List A) × Yields steps (map_source s) xs (map_source t)
yields_map steps g s [] t y = ([], ap map_source y)
yields_map steps g s (r ∷ rs) t y = let k = yields_map steps g y.0 rs t y.2 in (y.1.0 ∷ k.0, (map_source y.0, y.1.1, k.1))
