-- The beginnings of groups, byte by byte.
use Rattle.std.specs.Prelude.{ℕ, ◌+◌, List, [], ◌∷◌, cond, Option, None, Some}
use Rattle.slice_group_simd.specs.AsciiBytes.{ascii_class, is_class}
use Rattle.slice_group_simd.specs.declared.ascii_classes.AsciiClass.{AsciiClass}

-- 1 where a group of the class k begins at a byte of the class c, after one of the class before it
abbrev pub begins : AsciiClass → Option AsciiClass → AsciiClass → ℕ
begins k None c = cond (is_class c k) 1 0
begins k (Some p) c = cond (is_class p c) 0 (cond (is_class c k) 1 0)

-- how many groups of the class k begin in the bytes
abbrev pub starts : AsciiClass → Option AsciiClass → List ℕ → ℕ
starts k before [] = 0
starts k before (b ∷ bs) = begins k before (ascii_class b) + starts k (Some (ascii_class b)) bs
