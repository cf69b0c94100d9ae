-- What masks of boundaries tell of a list: which neighbouring pairs differ. Pair p is that of the elements at the places p and p + 1.
use Rattle.std.specs.Prelude.{◌≡◌, ℕ, ◌+◌, ◌-◌, ◌<◌, ◌≤◌, Bool, true, List, length, reverse}
use Rattle.std.specs.Int.{bit_at}
use Rattle.sgb_numbers.specs.Numbers.{differs}

module _ {T : Type 0} (eq : T → T → Bool) where
  -- the pairs from low up to, not including, known: bit k of m is that of the pair known + k - 64. A bit is set for each pair that differs,
  -- and for no other
  pub record FrontMask (xs : List T) (low m known : ℕ) : Type 0 where
    pub sound : (k : ℕ) → bit_at m k ≡ 1 → (low + 64 ≤ known + k) × (differs eq xs (known + k - 64) ≡ true)
    pub complete : (p : ℕ) → low ≤ p → p < known → differs eq xs p ≡ true → (known ≤ p + 64) × (bit_at m (p + 64 - known) ≡ 1)

  -- the pairs from base on, of elements before the place high, from the last on: those of the reversed list, where pair p of n elements is
  -- pair n - 2 - p. Bit k of m is that of the pair base + 63 - k
  abbrev pub BackMask : List T → ℕ → ℕ → ℕ → Type 0
  BackMask xs high m base = FrontMask (reverse xs) (length xs - high) m (length xs - 1 - base)
