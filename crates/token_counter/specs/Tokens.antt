-- The tokens of a text, and what is printed of them.
use Rattle.std.specs.Prelude.{ℕ, List, [], ◌∷◌, ◌++◌, None, codes, decimal}
use Rattle.slice_group_simd.specs.declared.AsciiClass.{AsciiClass}
use Rattle.slice_group_simd.specs.declared.AsciiClass.TheVariants.{Letter, Digit, Space, Other}
use Rattle.slice_group_simd.specs.Counted.{class_count}

-- how many tokens of the class the text has: the longest runs of bytes or characters of it
abbrev pub token_count : AsciiClass → List ℕ → ℕ
token_count class text = class_count class None text

-- the line of a class: how many runs of it there are
abbrev pub line : List ℕ → ℕ → List ℕ
line runs count = codes "runs of " ++ runs ++ codes ": " ++ decimal count ++ 10 ∷ []

-- what is printed of numbers of tokens: a line for each class
abbrev pub report : (AsciiClass → ℕ) → List ℕ
report count =
    line (codes "letters") (count Letter) ++ line (codes "digits") (count Digit) ++ line (codes "white space") (count Space)
    ++ line (codes "other bytes") (count Other)
