-- The lowest bit of a number that is not 0, and the number without it.
use Rattle.std.proofs.Common.{◌≡◌, ℕ, zero, suc, ◌+◌, ◌-◌, ◌*◌, ◌/◌, ◌%◌, ◌^◌, ◌<◌, ◌≤◌, w64, bit_and, sym, ap, ap₂, ◌∙◌, arith, ⊎_elim}
use Rattle.std.proofs.lemmas.Bool.{cases_lt}
use Rattle.std.proofs.lemmas.Nat.{pow_pos, mod-pow-add, shr_split, and_block, and_mask}
use Rattle.std.proofs.lemmas.Nat.Bits.{bit_at-trailing_zeros, bit_at-zero, bit_at_cat_low, bit_at_cat_high}
use Rattle.std.proofs.Math.Nat.{two-pow-succ, mod_self}
use Rattle.std.specs.Int.{bit_at}
use Rattle.std.specs.Int.Bits.{and_self}
use lib.Count.{count_trailing_zeros}

module _ (m : ℕ) (some : 0 < m) (small : m < 2 ^ 64) where
  abbrev pub lowest : ℕ
  lowest = count_trailing_zeros 64 m

  pub lowest_below : lowest < 64
  lowest_below = (bit_at-trailing_zeros w64 m some small).0

  pub lowest_set : bit_at m lowest ≡ 1
  lowest_set = (bit_at-trailing_zeros w64 m some small).1

  pub below_clear : (i : ℕ) → i < lowest → bit_at m i ≡ 0
  below_clear = (bit_at-trailing_zeros w64 m some small).2

  low_zero : (k : ℕ) → k ≤ lowest → m % 2 ^ k ≡ 0
  low_zero zero l = omega arith
  low_zero (suc k) l =
      ap (λ (n : ℕ). m % 2 ^ n) {x = suc k} {y = 1 + k} (omega arith) ∙ mod-pow-add m 1 k
      ∙ ap (λ (n : ℕ). n * 2 ^ k + m % 2 ^ k) (below_clear k (omega arith)) ∙ omega (arith, low_zero k (omega arith))

  -- what stands above the lowest bit
  abbrev above : ℕ
  above = m / 2 ^ suc lowest

  remainder_is : m % 2 ^ suc lowest ≡ 2 ^ lowest
  remainder_is =
      ap (λ (n : ℕ). m % 2 ^ n) {x = suc lowest} {y = 1 + lowest} (omega arith) ∙ mod-pow-add m 1 lowest
      ∙ ap (λ (n : ℕ). n * 2 ^ lowest + m % 2 ^ lowest) lowest_set ∙ omega (arith, low_zero lowest (omega arith))

  power_below : 2 ^ lowest < 2 ^ suc lowest
  power_below = omega (arith, two-pow-succ lowest, pow_pos lowest)

  is_split : m ≡ above * 2 ^ suc lowest + 2 ^ lowest
  is_split = sym (shr_split m (suc lowest)) ∙ ap (λ (n : ℕ). above * 2 ^ suc lowest + n) remainder_is

  abbrev pub rest : ℕ
  rest = bit_and m (m - 1)

  rest_is : rest ≡ above * 2 ^ suc lowest + 0
  rest_is =
      let less : m - 1 ≡ above * 2 ^ suc lowest + (2 ^ lowest - 1) = omega (arith, is_split, pow_pos lowest) in
      let apart : bit_and (2 ^ lowest) (2 ^ lowest - 1) ≡ 0 = and_mask (2 ^ lowest) lowest ∙ mod_self (2 ^ lowest) in
      ap₂ bit_and is_split less
      ∙ and_block (suc lowest) above above (2 ^ lowest) (2 ^ lowest - 1) power_below (omega (arith, power_below))
      ∙ ap₂ (λ (a b : ℕ). a * 2 ^ suc lowest + b) (and_self above) apart

  pub rest_above : (i : ℕ) → lowest < i → bit_at rest i ≡ bit_at m i
  rest_above i l =
      ap (λ (n : ℕ). bit_at n i) rest_is ∙ bit_at_cat_high above (suc lowest) 0 i (omega (arith, power_below)) (omega arith)
      ∙ sym (ap (λ (n : ℕ). bit_at n i) is_split ∙ bit_at_cat_high above (suc lowest) (2 ^ lowest) i power_below (omega arith))

  rest_below : (i : ℕ) → i ≤ lowest → bit_at rest i ≡ 0
  rest_below i l = ap (λ (n : ℕ). bit_at n i) rest_is ∙ bit_at_cat_low above (suc lowest) 0 i (omega arith) ∙ bit_at-zero i

  pub rest_set : (i : ℕ) → bit_at rest i ≡ 1 → (lowest < i) × (bit_at m i ≡ 1)
  rest_set i set =
      ⊎_elim
      (λ l. (l, sym (rest_above i l) ∙ set))
      (λ l. absurd (omega (arith, set, rest_below i l)))
      (cases_lt lowest i)
