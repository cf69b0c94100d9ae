-- A mask that is made of one test after another.
use Rattle.std.proofs.Common.{◌≡◌, ℕ, suc, ◌+◌, ◌-◌, ◌*◌, ◌<◌, ◌≤◌, cond, Bool, false, List, ◌∷◌, length, map}
use Rattle.std.proofs.Common.{take, drop, drop-cons, get_or, ap, ◌∙◌, arith}
use Rattle.std.proofs.lemmas.List.{take-map, drop-map}
use Rattle.slice_group_simd.proofs.Joined.{few}
use Rattle.std.specs.Simd.Lanes.{chunk, mask_l}

pub map-chunk : {X Y : Type 0} (f : X → Y) (at n : ℕ) (xs : List X) → chunk at n (map f xs) ≡ map f (chunk at n xs)
map-chunk f at n xs = ap (take n) (drop-map f at xs) ∙ take-map f n (drop at xs)

pub few_mapped : {X : Type 0} (f : X → Bool) (at n : ℕ) (xs : List X) → n ≤ 16 → mask_l (map f (chunk at n xs)) < 65536
few_mapped f at n xs l = rw (← map-chunk f at n xs) (few (map f xs) at n l)

-- one test more, before those of a mask
module _ (bs : List Bool) (at k m : ℕ) (some : 0 < k) (most : k ≤ 16) (room : at + 16 ≤ length bs)
    (mask : m ≡ mask_l (chunk (at + k) (16 - k) bs)) where
  pub more : (b : Bool) → b ≡ get_or bs (at + (k - 1)) false
      → 2 * m + cond b 1 0 ≡ mask_l (chunk (at + (k - 1)) (16 - (k - 1)) bs)
  more b e =
      let p = at + (k - 1) in
      let n : 16 - (k - 1) ≡ suc (16 - k) = omega (arith, some, most) in
      let cons : chunk p (suc (16 - k)) bs ≡ get_or bs p false ∷ chunk (at + k) (16 - k) bs =
      ap (take (suc (16 - k))) (drop-cons bs p false (omega (arith, some, most, room)))
      ∙ ap (λ (i : ℕ). get_or bs p false ∷ chunk i (16 - k) bs) {x = suc p} {y = at + k} (omega (arith, some)) in
      let bit = ap {B = ℕ} (λ (a : Bool). cond a 1 0) e in
      omega (arith, bit, mask, ap (λ (i : ℕ). mask_l (chunk p i bs)) n, ap mask_l cons)
