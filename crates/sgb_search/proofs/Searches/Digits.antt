-- The laws of binary digits.
use Rattle.std.specs.Prelude.{ℕ, ◌+◌, ◌-◌, ◌*◌, ◌/◌, ◌^◌, ◌<◌, ◌≤◌, ◌≡◌}
use Rattle.std.proofs.Common.{zero, suc, arith, refl}
use Rattle.std.proofs.Math.Nat.{pow-suc, pow-zero}
use Rattle.std.proofs.lemmas.Nat.{mul-le, row_fits}
use Rattle.sgb_search.specs.Searching.{digits, digits_within, binary, exponential, IsWithin}

above_within : (most m : ℕ) → m ≤ most → m < 2 ^ digits_within most m
above_within zero m h = rw (pow-zero 2) (omega arith)
above_within (suc most) zero h = rw (pow-zero 2) (omega arith)
above_within (suc most) (suc m) h =
    let half : suc m / 2 ≤ most = omega arith in
    let i = above_within most (suc m / 2) half in
    omega (arith, i, pow-suc 2 (digits_within most (suc m / 2)))

least_within : (most m d : ℕ) → m < 2 ^ d → digits_within most m ≤ d
least_within zero m d h = omega arith
least_within (suc most) zero d h = omega arith
least_within (suc most) (suc m) zero h = absurd (omega (arith, rw (pow-zero 2) at h))
least_within (suc most) (suc m) (suc d) h =
    let below : suc m / 2 < 2 ^ d = omega (arith, rw (pow-suc 2 d) at h) in
    omega (arith, least_within most (suc m / 2) d below)

pub digits_above : (m : ℕ) → m < 2 ^ digits m
unfolding digits
digits_above m = above_within m m (omega arith)

pub digits_least : (m d : ℕ) → m < 2 ^ d → digits m ≤ d
unfolding digits
digits_least m d h = least_within m m d h

pub digits_zero : digits 0 ≡ 0
unfolding digits
digits_zero = refl

pub digits_mono : (a b : ℕ) → a ≤ b → digits a ≤ digits b
digits_mono a b h = digits_least a (digits b) (omega (arith, digits_above b))

-- a number above 0 has a digit more than its half
pub digits_half : (m h : ℕ) → 0 < m → h ≤ m / 2 → digits h + 1 ≤ digits m
digits_half m h pos le = by (digits m) (digits_above m)
  where
    by : (d : ℕ) → m < 2 ^ d → digits h + 1 ≤ d
    by zero b = absurd (omega (arith, rw (pow-zero 2) at b))
    by (suc d) b = let below : h < 2 ^ d = omega (arith, rw (pow-suc 2 d) at b) in omega (arith, digits_least h d below)

within_most : (most m : ℕ) → digits_within most m ≤ most
within_most zero m = omega arith
within_most (suc most) zero = omega arith
within_most (suc most) (suc m) = omega (arith, within_most most (suc m / 2))

pub digits_le_self : (m : ℕ) → digits m ≤ m
unfolding digits
digits_le_self m = within_most m m

-- a number has at most one digit more than its half
pub digits_double : (m h : ℕ) → m ≤ 2 * h + 1 → digits m ≤ digits h + 1
digits_double m h le =
    let below : m < 2 ^ suc (digits h) = omega (arith, digits_above h, pow-suc 2 (digits h), le) in
    omega (arith, digits_least m (suc (digits h)) below)

-- what a group of g costs is at most three questions for each of its elements
pub digits_triple : (g : ℕ) → 0 < g → 2 * digits g + 1 ≤ 3 * g
digits_triple g h = omega (arith, digits_le_self g)

-- one question's bound on n elements, and the bound on those that are left of them, stay below the bound of a walk
pub due_halving : (n g : ℕ) → 0 < g → g ≤ n → digits (n - 1) + (n - g) * digits (n - g) ≤ n * digits n
due_halving n g h l =
    let a = mul-le (n - g) (digits (n - g)) (n - g) (digits n) (omega arith) (digits_mono (n - g) n (omega arith)) in
    let b = row_fits (n - g) (digits n) n (digits n) (omega arith) (omega arith) in
    omega (arith, a, b, digits_mono (n - 1) n (omega arith))

pub due_galloping : (n g : ℕ) → 0 < g → g ≤ n → 2 * digits g + 1 + 3 * (n - g) ≤ 3 * n
due_galloping n g h l = omega (arith, digits_triple g h)

-- so one call that asks no more than halving may, or galloping, is within the cost
pub within_halving : (n g m : ℕ) → 0 < g → g ≤ n → m ≤ digits (n - 1) → IsWithin binary n g m
within_halving n g m some le most = record { call = most; walk = omega (arith, most, due_halving n g some le) }

pub within_galloping : (n g m : ℕ) → 0 < g → g ≤ n → m ≤ 2 * digits g + 1 → IsWithin exponential n g m
within_galloping n g m some le most = record { call = most; walk = omega (arith, most, due_galloping n g some le) }
