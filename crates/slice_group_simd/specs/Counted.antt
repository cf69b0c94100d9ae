-- How many groups of each class some bytes have.
use Rattle.std.specs.Prelude.{ℕ, Bool, List, [], ◌∷◌, cond, count_by, Option, None, Some}
use Rattle.std.specs.Ordering.{on}
use Rattle.sgb_split.specs.Split.{split}
use Rattle.slice_group_simd.specs.AsciiBytes.{ascii_class, is_class}
use Rattle.slice_group_simd.specs.declared.ascii_classes.AsciiClass.{AsciiClass}
use Rattle.slice_group_simd.specs.declared.ascii_classes.AsciiClass.TheVariants.{Letter, Digit, Space, Other}
use Rattle.slice_group_simd.specs.declared.class_counts.ClassCounts.{ClassCounts}

-- two bytes are of one class
abbrev pub same_class : ℕ → ℕ → Bool
same_class = on ascii_class is_class

-- the class of a group: that of its first byte
abbrev pub class_of_group : List ℕ → AsciiClass
class_of_group [] = Other
class_of_group (b ∷ bs) = ascii_class b

-- the groups that begin in the bytes: all but a first one of the class before them
abbrev pub begun : Option AsciiClass → List (List ℕ) → List (List ℕ)
begun None groups = groups
begun (Some before) [] = []
begun (Some before) (group ∷ groups) = cond (is_class before (class_of_group group)) groups (group ∷ groups)

-- how many groups of the class the bytes have, but for a first one that goes on from a byte of the class before
abbrev pub class_count : AsciiClass → Option AsciiClass → List ℕ → ℕ
class_count class before bytes = count_by (λ group. is_class (class_of_group group) class) (begun before (split same_class bytes))

-- the class of the last byte, or the one before them
abbrev pub class_after : Option AsciiClass → List ℕ → Option AsciiClass
class_after before [] = before
class_after before (b ∷ bs) = class_after (Some (ascii_class b)) bs

-- what the counts have for a class
abbrev pub count_of : AsciiClass → ClassCounts → ℕ
count_of Letter counts = counts.letters
count_of Digit counts = counts.digits
count_of Space counts = counts.spaces
count_of Other counts = counts.others
