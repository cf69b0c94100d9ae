-- The rank of a place is the number of the piece that it is in.
use Rattle.std.proofs.Common.{◌≡◌, ℕ, ◌+◌, Bool, true, false, cond, not, List, [], ◌∷◌, ◌++◌, length, map, replicate, refl, sym, ap, ◌∙◌, arith, append_assoc}
use Rattle.std.proofs.lemmas.Simd.{map-map}
use Rattle.std.proofs.lemmas.List.Sums.{sum_by-cons}
use Rattle.sgb_split.specs.Split.{neighbours, on_pairs, split, put_before, refused_pairs}
use Rattle.slice_group_by.specs.Ranks.{beginnings, ranks}

-- at each place of the pieces, the number of its piece, counted on from r
abbrev pub numbered : {A : Type 0} → ℕ → List (List A) → List ℕ
numbered r [] = []
numbered r (g ∷ gs) = replicate (length g) r ++ numbered (r + 1) gs

numbered-put_before : {A : Type 0} (b : Bool) (x : A) (r : ℕ) (gs : List (List A))
    → numbered r (put_before (λ _ _. b) b x gs) ≡ r ∷ numbered (cond b r (r + 1)) gs
numbered-put_before true x r [] = refl
numbered-put_before true x r (g ∷ gs) = refl
numbered-put_before false x r gs = refl

-- one more before the pair, or one more for its refusal
one_on : (b : Bool) (r k : ℕ) → cond b r (r + 1) + k ≡ r + (cond (not b) 1 0 + k)
one_on true r k = omega arith
one_on false r k = omega arith

map-none : (ks : List ℕ) → map (λ k. 0 + k) ks ≡ ks
map-none [] = refl
map-none (k ∷ ks) = ap (λ n. n ∷ map (λ l. 0 + l) ks) (omega arith) ∙ ap (λ l. k ∷ l) (map-none ks)

module _ {A : Type 0} (p : A → A → Bool) where
  refused-next : (x y : A) (zs : List A) → refused_pairs p (x ∷ y ∷ zs) ≡ cond {A = ℕ} (not (p x y)) 1 0 + refused_pairs p (y ∷ zs)
  refused-next x y zs = sum_by-cons (λ q. cond (not (on_pairs p q)) 1 0) (x, y) (neighbours (y ∷ zs))

  ranks-next : (x y : A) (ys : List A) → ranks p (x ∷ y ∷ ys) ≡ 0 ∷ map (λ (k : ℕ). cond {A = ℕ} (not (p x y)) 1 0 + k) (ranks p (y ∷ ys))
  ranks-next x y ys =
      let step : ℕ = cond {A = ℕ} (not (p x y)) 1 0 in
      let onward : List (List A) = [] ∷ beginnings ys in
      ap (λ (ks : List ℕ). 0 ∷ ks)
      (map-map (refused_pairs p) (λ (zs : List A). x ∷ zs) (map (λ (zs : List A). y ∷ zs) onward)
      ∙ map-map (λ (zs : List A). refused_pairs p (x ∷ zs)) (λ (zs : List A). y ∷ zs) onward
      ∙ (λ i. map (λ (zs : List A). refused-next x y zs i) onward)
      ∙ sym (map-map (λ (zs : List A). step + refused_pairs p zs) (λ (zs : List A). y ∷ zs) onward)
      ∙ sym (map-map (λ (k : ℕ). step + k) (refused_pairs p) (map (λ (zs : List A). y ∷ zs) onward)))

  numbered-split : (r : ℕ) (xs : List A) → numbered r (split p xs) ≡ map (λ k. r + k) (ranks p xs)
  numbered-split r [] = refl
  numbered-split r (x ∷ []) = ap (λ (n : ℕ). n ∷ []) (omega arith)
  numbered-split r (x ∷ y ∷ ys) =
      let step : ℕ = cond {A = ℕ} (not (p x y)) 1 0 in
      let later = ranks p (y ∷ ys) in
      numbered-put_before (p x y) x r (split p (y ∷ ys))
      ∙ ap (λ (ks : List ℕ). r ∷ ks)
      (numbered-split (cond (p x y) r (r + 1)) (y ∷ ys)
      ∙ (λ i. map (λ (k : ℕ). one_on (p x y) r k i) later)
      ∙ sym (map-map (λ (k : ℕ). r + k) (λ (k : ℕ). step + k) later))
      ∙ ap (λ (n : ℕ). n ∷ map (λ (k : ℕ). r + k) (map (λ (k : ℕ). step + k) later)) (omega arith)
      ∙ sym (ap (map (λ (k : ℕ). r + k)) (ranks-next x y ys))

  pub ranks_numbered : (xs : List A) → numbered 0 (split p xs) ≡ ranks p xs
  ranks_numbered xs = numbered-split 0 xs ∙ map-none (ranks p xs)

-- one more group has been filled with its number
pub one_more : {A : Type 0} (p : A → A → Bool) (done whole : List ℕ) (r : ℕ) (group rest xs : List A) (value : List ℕ)
    → done ++ numbered r (split p xs) ≡ whole
    → split p xs ≡ group ∷ split p rest → value ≡ replicate (length group) r → (done ++ value) ++ numbered (r + 1) (split p rest) ≡ whole
one_more {A = A} p done whole r group rest xs value i cut v =
    append_assoc done value (numbered (r + 1) (split p rest)) ∙ ap (λ (l : List ℕ). done ++ (l ++ numbered (r + 1) (split p rest))) v
    ∙ sym (ap (λ (ps : List (List A)). done ++ numbered r ps) cut) ∙ i
