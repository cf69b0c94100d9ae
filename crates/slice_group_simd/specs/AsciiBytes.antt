-- The classes of bytes by ASCII.
use Rattle.std.specs.Prelude.{ℕ, Bool, cond}
use Rattle.std.specs.Char.{is_ascii_alphabetic, is_ascii_digit, is_ascii_whitespace}
use Rattle.slice_group_simd.specs.contracts.ascii_classes.AsciiClassPartialEq.TheImpl.{ghosts}
use Rattle.slice_group_simd.specs.declared.ascii_classes.AsciiClass.{AsciiClass}
use Rattle.slice_group_simd.specs.declared.ascii_classes.AsciiClass.TheVariants.{Letter, Digit, Space, Other}

-- the class of a byte
abbrev pub ascii_class : ℕ → AsciiClass
ascii_class b = cond (is_ascii_alphabetic b) Letter (cond (is_ascii_digit b) Digit (cond (is_ascii_whitespace b) Space Other))

-- the two are one class
abbrev pub is_class : AsciiClass → AsciiClass → Bool
is_class = ghosts.eq

-- what a vector holds for a class
abbrev pub code : AsciiClass → ℕ
code Letter = 1
code Digit = 0
code Space = 2
code Other = 3
