-- A group that ends at the first pair that differs, as the questions of a linear call.
use Rattle.std.proofs.Common.{◌≡◌, ℕ, zero, suc, ◌+◌, ◌-◌, ◌<◌, ◌≤◌, not, Bool, true, false, List, [], ◌∷◌, ◌++◌, length}
use Rattle.std.proofs.Common.{map, take, drop, get_or, refl, sym, ap, ◌∙◌, subst, arith}
use Rattle.std.specs.Prelude.{reverse, slice_range}
use Rattle.std.proofs.lemmas.Bool.{not-true, not-false}
use Rattle.std.proofs.lemmas.List.{length-map, length-reverse, reverse-append, map-append, get_or-reverse, get_or-take, get_or-drop}
use Rattle.sgb_split.specs.declared.end.End.TheVariants.{Front, Back}
use Rattle.sgb_split.specs.declared.judge.Judge.{Ghosts}
use Rattle.sgb_split.specs.Split.{neighbours, on_pairs}
use Rattle.sgb_split.specs.Questions.{IsRun, all_answered, questions}
use Rattle.sgb_split.proofs.Lists.Ranges.{length-range}
use Rattle.sgb_split.proofs.Lists.Pairs.{length-neighbours}
use Rattle.sgb_numbers.specs.Numbers.{boundaries, differs, IsFirstEnd, IsLastStart}

module _ {T : Type 0} (eq : T → T → Bool) where
  abbrev unequal : T × T → Bool
  unequal q = not (on_pairs eq q)

  pub boundaries-drop : (n : ℕ) (xs : List T) → boundaries eq (drop n xs) ≡ drop n (boundaries eq xs)
  boundaries-drop zero xs = refl
  boundaries-drop (suc n) [] = refl
  boundaries-drop (suc zero) (x ∷ []) = refl
  boundaries-drop (suc (suc n)) (x ∷ []) = refl
  boundaries-drop (suc n) (x ∷ y ∷ ys) = boundaries-drop n (y ∷ ys)

  pub boundaries-take : (n : ℕ) (xs : List T) → boundaries eq (take (suc n) xs) ≡ take n (boundaries eq xs)
  boundaries-take zero [] = refl
  boundaries-take (suc n) [] = refl
  boundaries-take zero (x ∷ []) = refl
  boundaries-take (suc n) (x ∷ []) = refl
  boundaries-take zero (x ∷ y ∷ ys) = refl
  boundaries-take (suc n) (x ∷ y ∷ ys) = ap (λ bs. not (eq x y) ∷ bs) (boundaries-take n (y ∷ ys))

  map-reverse : {X Y : Type 0} (f : X → Y) (xs : List X) → map f (reverse xs) ≡ reverse (map f xs)
  map-reverse f [] = refl
  map-reverse f (x ∷ xs) =
      ap (map f) (reverse-append (x ∷ []) xs) ∙ map-append f (reverse xs) (x ∷ []) ∙ ap (λ ys. ys ++ f x ∷ []) (map-reverse f xs)
      ∙ sym (reverse-append (f x ∷ []) (map f xs))

  -- a judge that may always be asked about a pair, answers what eq says, and never changes
  module _ {J : Type 0} (g : Ghosts J T) (j : J) (asks : (q : T × T) → g.may_ask j q)
      (tells : (q : T × T) → g.answers j q (eq q.0 q.1) j) where
    tells_as : (q : T × T) (b : Bool) → on_pairs eq q ≡ b → g.answers j q b j
    tells_as q b e = subst (λ a. g.answers j q a j) e (tells q)

    -- along pairs of which the first n are of equal elements, and the next, if there is one, is not
    run_along : (qs : List (T × T)) (n : ℕ) → n ≤ length qs → ((k : ℕ) → k < n → get_or (map unequal qs) k false ≡ false)
        → (n < length qs → get_or (map unequal qs) n false ≡ true)
        → IsRun g.may_ask g.answers j (all_answered true (take n qs) ++ all_answered false (take 1 (drop n qs))) j
    run_along [] zero l same differ = refl
    run_along [] (suc n) l same differ = absurd (omega arith)
    run_along (q ∷ qs) zero l same differ = (asks q, (j, tells_as q false (not-true (on_pairs eq q) (differ (omega arith))), refl))
    run_along (q ∷ qs) (suc n) l same differ = (
      asks q,
      (
        j,
        tells_as q true (not-false (on_pairs eq q) (same 0 (omega arith))),
        run_along qs n (omega arith) (λ k few. same (suc k) (omega arith)) (λ more. differ (omega arith)),
      ),
    )

    module _ (xs : List T) (low high : ℕ) (nonempty : low < high) (inside : high ≤ length xs) where
      abbrev part : List T
      part = slice_range xs low high

      pub part_long : length part ≡ high - low
      part_long = length-range xs low high (omega (arith, nonempty)) inside

      part_boundaries : boundaries eq part ≡ take (high - low - 1) (drop low (boundaries eq xs))
      part_boundaries =
          let n : high - low ≡ suc (high - low - 1) = omega (arith, nonempty) in
          ap (λ (k : ℕ). boundaries eq (take k (drop low xs))) n ∙ boundaries-take (high - low - 1) (drop low xs)
          ∙ ap (take (high - low - 1)) (boundaries-drop low xs)

      read : (k p : ℕ) → p ≡ low + k → p + 1 < high → get_or (boundaries eq part) k false ≡ differs eq xs p
      unfolding differs
      read k p e l =
          ap (λ bs. get_or bs k false) part_boundaries
          ∙ get_or-take (high - low - 1) (drop low (boundaries eq xs)) k false (omega (arith, e, l))
          ∙ get_or-drop low (boundaries eq xs) k false ∙ ap (λ (n : ℕ). get_or (boundaries eq xs) n false) (sym e)

      pairs : length (neighbours part) ≡ high - low - 1
      pairs = length-neighbours part ∙ ap (λ (n : ℕ). n - 1) part_long

      pub asked_front : (end : ℕ) → IsFirstEnd eq xs low high end → IsRun g.may_ask g.answers j (questions Front part (end - low)) j
      asked_front end is =
          run_along (neighbours part) (end - low - 1) (omega (arith, pairs, is.within, is.nonempty))
          (λ k few. read k (low + k) refl (omega (arith, few, is.within)) ∙ is.same.at (low + k) (omega arith) (omega (arith, few)))
          (λ more.
          read (end - low - 1) (end - 1) (omega (arith, is.nonempty)) (omega (arith, more, pairs, is.nonempty))
          ∙ is.differ (omega (arith, more, pairs, is.nonempty)))

      back_read : (k p : ℕ) → p + k + 2 ≡ high → low ≤ p → get_or (map unequal (reverse (neighbours part))) k false ≡ differs eq xs p
      back_read k p e l =
          let long : length (boundaries eq part) ≡ high - low - 1 = length-map (neighbours part) unequal ∙ pairs in
          ap (λ bs. get_or bs k false) (map-reverse unequal (neighbours part))
          ∙ get_or-reverse (boundaries eq part) k false (omega (arith, long, e, l))
          ∙ read (length (boundaries eq part) - 1 - k) p (omega (arith, long, e, l)) (omega (arith, e))

      pub asked_back : (start : ℕ) → IsLastStart eq xs low high start → IsRun g.may_ask g.answers j (questions Back part (high - start)) j
      asked_back start is =
          let back_pairs : length (reverse (neighbours part)) ≡ high - low - 1 = length-reverse (neighbours part) ∙ pairs in
          run_along (reverse (neighbours part)) (high - start - 1) (omega (arith, back_pairs, is.within, is.nonempty))
          (λ k few.
          back_read k (high - 2 - k) (omega (arith, few)) (omega (arith, few, is.within))
          ∙ is.same.at (high - 2 - k) (omega (arith, few)) (omega (arith, few)))
          (λ more.
          back_read (high - start - 1) (start - 1) (omega (arith, more, back_pairs, is.nonempty, is.within))
          (omega (arith, more, back_pairs, is.nonempty))
          ∙ is.differ (omega (arith, more, back_pairs, is.nonempty)))
