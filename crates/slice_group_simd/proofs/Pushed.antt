-- A number of 64 bits whose low bits give way to others on top.
use Rattle.std.proofs.Common.{◌≡◌, ℕ, ◌+◌, ◌-◌, ◌*◌, ◌/◌, ◌%◌, ◌^◌, ◌<◌, ◌≤◌, bit_or, ap, ◌∙◌, subst, arith}
use Rattle.std.proofs.lemmas.Nat.{shl_whole, shr_below, or_shifted, or_comm, shr-shr}
use Rattle.std.proofs.lemmas.Nat.Bits.{bit_at_cat_low, bit_at_cat_high}
use Rattle.std.specs.Int.{bit_at}

module _ (w v m c : ℕ) (all : w + v ≡ 64) (small : m < 2 ^ 64) (few : c < 2 ^ w) where
  abbrev pub pushed : ℕ
  pushed = bit_or (m / 2 ^ w) (c * 2 ^ v % 2 ^ 64)

  lower : m / 2 ^ w < 2 ^ v
  lower = let e : 64 ≡ v + w = omega (arith, all) in shr_below m v w (subst (λ (n : ℕ). m < 2 ^ n) e small)

  pub pushed_is : pushed ≡ c * 2 ^ v + m / 2 ^ w
  pushed_is = ap (bit_or (m / 2 ^ w)) (shl_whole c w v 64 few (omega arith)) ∙ or_comm (m / 2 ^ w) (c * 2 ^ v)
      ∙ or_shifted c v (m / 2 ^ w) lower

  pub pushed_low : (i : ℕ) → i < v → bit_at pushed i ≡ bit_at m (w + i)
  pushed_low i l =
      ap (λ (n : ℕ). bit_at n i) pushed_is ∙ bit_at_cat_low c v (m / 2 ^ w) i l ∙ ap (λ (n : ℕ). n % 2) (shr-shr m w i)

  pub pushed_high : (i : ℕ) → v ≤ i → bit_at pushed i ≡ bit_at c (i - v)
  pushed_high i l = ap (λ (n : ℕ). bit_at n i) pushed_is ∙ bit_at_cat_high c v (m / 2 ^ w) i lower l
