-- Four masks of sixteen pairs as one of sixty-four.
use Rattle.std.proofs.Common.{◌≡◌, ℕ, suc, ◌+◌, ◌*◌, ◌^◌, ◌<◌, ◌≤◌, pow_mono, Bool, List, [], ◌∷◌, ◌++◌, length, take, drop, sym, ap}
use Rattle.std.proofs.Common.{◌∙◌, arith}
use Rattle.std.proofs.lemmas.List.{drop-drop, length-take}
use Rattle.std.proofs.Math.Seq.{take-add}
use Rattle.std.proofs.lemmas.Simd.{length-chunk, mask_l-lt}
use Rattle.std.specs.Simd.Lanes.{chunk, mask_l}
use Rattle.std.proofs.Math.Nat.{two-pow-succ, mul_assoc}

mask_l-append : (xs ys : List Bool) → mask_l (xs ++ ys) ≡ mask_l xs + 2 ^ length xs * mask_l ys
mask_l-append [] ys = omega arith
mask_l-append (x ∷ xs) ys =
    let more : 2 ^ suc (length xs) * mask_l ys ≡ 2 * (2 ^ length xs * mask_l ys) =
    ap (λ (n : ℕ). n * mask_l ys) {x = 2 ^ suc (length xs)} {y = 2 * 2 ^ length xs} (omega (arith, two-pow-succ (length xs)))
    ∙ mul_assoc 2 (2 ^ length xs) (mask_l ys) in
    omega (arith, more, mask_l-append xs ys)

-- bs: the tests of a list
module _ (bs : List Bool) where
  pub few : (at n : ℕ) → n ≤ 16 → mask_l (chunk at n bs) < 65536
  few at n l =
      let lanes = chunk at n bs in
      omega (arith, mask_l-lt lanes, pow_mono {i = length lanes} {j = 16} (omega (arith, length-take n (drop at bs), l)))

  -- sixteen, and n that come next
  with_next : (at next n : ℕ) → next ≡ at + 16 → next ≤ length bs
      → mask_l (chunk at (16 + n) bs) ≡ mask_l (chunk at 16 bs) + 65536 * mask_l (chunk next n bs)
  with_next at next n e room =
      let lanes = chunk at 16 bs in
      let rest = take n (drop 16 (drop at bs)) in
      ap mask_l (take-add 16 n (drop at bs)) ∙ mask_l-append lanes rest
      ∙ ap (λ (k : ℕ). mask_l lanes + 2 ^ k * mask_l rest) (length-chunk at 16 bs (omega (arith, e, room)))
      ∙ ap (λ ys. mask_l lanes + 65536 * mask_l (take n ys)) (drop-drop 16 at bs ∙ ap (λ (i : ℕ). drop i bs) (sym e))

  -- sixty-four from the place at on, and sixteen each from h, i, j and k on
  pub block_mask : (at h i j k : ℕ) → h ≡ at → i ≡ at + 16 → j ≡ at + 32 → k ≡ at + 48 → at + 64 ≤ length bs
      → mask_l (chunk at 64 bs)
      ≡ mask_l (chunk h 16 bs) + 65536 * (mask_l (chunk i 16 bs) + 65536 * (mask_l (chunk j 16 bs) + 65536 * mask_l (chunk k 16 bs)))
  block_mask at h i j k first second third fourth room =
      let whole = ap (λ (n : ℕ). mask_l (chunk n 64 bs)) first in
      let three = with_next h i 48 (omega arith) (omega arith) in
      let two = with_next i j 32 (omega arith) (omega arith) in
      omega (arith, whole, three, two, with_next j k 16 (omega arith) (omega arith))
