-- Numbers by tens.
use Rattle.std.specs.Prelude.{ℕ, ◌/◌, Bool, nat_eq}

abbrev pub tens : ℕ → ℕ
tens x = x / 10

abbrev pub same_tens : ℕ → ℕ → Bool
same_tens a b = nat_eq (tens a) (tens b)
