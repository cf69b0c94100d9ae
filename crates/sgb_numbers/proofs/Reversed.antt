-- The neighbours in a reversed list, where equality is symmetric: pair p of n elements is pair n - 2 - p from the back.
use Rattle.std.proofs.Common.{◌≡◌, ℕ, ◌+◌, ◌-◌, ◌<◌, ◌≤◌, not, Bool, false, List, [], ◌∷◌, length, get_or, sym, ap, ap₂, ◌∙◌, arith}
use Rattle.std.specs.Prelude.{reverse}
use Rattle.std.specs.Simd.Lanes.{chunk}
use Rattle.std.proofs.lemmas.List.{ext_get_or, get_or-reverse, length-reverse}
use Rattle.std.proofs.lemmas.Simd.{length-chunk, get_or-chunk}
use Rattle.sgb_numbers.specs.Numbers.{AreLike}
use Rattle.sgb_numbers.specs.Numbers.{boundaries, differs, AreSame}
use Rattle.sgb_numbers.proofs.Pairs.{length-boundaries, differs_or}

pub at_reverse : {X : Type 0} (xs : List X) (i j : ℕ) (d : X) → i + j + 1 ≡ length xs → get_or (reverse xs) i d ≡ get_or xs j d
at_reverse xs i j d e = get_or-reverse xs i d (omega arith) ∙ ap (λ (n : ℕ). get_or xs n d) {x = length xs - 1 - i} {y = j} (omega arith)

pub like_reverse : {T : Type 0} (eq : T → T → Bool) (e : T) (xs : List T) (i j k l : ℕ) → length xs ≤ i + l → j + k ≤ length xs
    → AreLike eq e xs k l → AreLike eq e (reverse xs) i j
like_reverse eq e xs i j k l a b like = record {
  at =
      λ p low high.
      ap (λ x. eq x e) (at_reverse xs p (length xs - 1 - p) e (omega arith)) ∙ like.at (length xs - 1 - p) (omega arith) (omega arith);
}

module _ {T : Type 0} (eq : T → T → Bool) (symm : (a b : T) → eq a b ≡ eq b a) where
  pub differs_reverse : (xs : List T) (p q : ℕ) → p + q + 2 ≡ length xs → differs eq (reverse xs) q ≡ differs eq xs p
  differs_reverse [] p q e = absurd (omega arith)
  differs_reverse (x ∷ xs) p q e =
      differs_or eq (reverse (x ∷ xs)) q x (omega (arith, length-reverse (x ∷ xs)))
      ∙ ap₂ (λ a b. not (eq a b)) (at_reverse (x ∷ xs) q (p + 1) x (omega arith)) (at_reverse (x ∷ xs) (q + 1) p x (omega arith))
      ∙ ap not (symm _ _) ∙ sym (differs_or eq (x ∷ xs) p x (omega arith))

  module _ (xs : List T) where
    pub same_reverse : (i j k l : ℕ) → length xs ≤ i + l + 1 → j + k + 1 ≤ length xs → AreSame eq (reverse xs) k l → AreSame eq xs i j
    same_reverse i j k l a b same = record {
      at =
          λ p low high.
          sym (differs_reverse xs p (length xs - 2 - p) (omega arith)) ∙ same.at (length xs - 2 - p) (omega arith) (omega arith);
    }

    pub chunk_reverse : (at from w : ℕ) → at + from + w + 1 ≡ length xs
        → reverse (chunk at w (boundaries eq xs)) ≡ chunk from w (boundaries eq (reverse xs))
    unfolding differs
    chunk_reverse at from w e =
        let lanes = chunk at w (boundaries eq xs) in
        let long : length lanes ≡ w = length-chunk at w (boundaries eq xs) (omega (arith, length-boundaries eq xs)) in
        let other : length (chunk from w (boundaries eq (reverse xs))) ≡ w =
        length-chunk from w (boundaries eq (reverse xs)) (omega (arith, length-boundaries eq (reverse xs), length-reverse xs)) in
        ext_get_or false (reverse lanes) (chunk from w (boundaries eq (reverse xs))) (length-reverse lanes ∙ long ∙ sym other)
        (λ i l.
        let few : i < w = omega (arith, l, length-reverse lanes, long) in
        at_reverse lanes i (w - 1 - i) false (omega (arith, few, long))
        ∙ get_or-chunk at w (boundaries eq xs) (w - 1 - i) false (omega (arith, few))
        ∙ sym (differs_reverse xs (at + (w - 1 - i)) (from + i) (omega (arith, few, e)))
        ∙ sym (get_or-chunk from w (boundaries eq (reverse xs)) i false few))
