use Rattle.std.proofs.Common.{◌≡◌, ◌+◌, ◌++◌, ℕ, List, [], ◌∷◌, Option, Some, refl, sym, ap, ap₂, ◌∙◌, arith}
use Rattle.slice_group_simd.specs.AsciiBytes.{ascii_class}
use Rattle.slice_group_simd.specs.Counted.{class_after}
use Rattle.slice_group_simd.specs.Starts.{begins}
use Rattle.slice_group_simd.specs.declared.ascii_classes.AsciiClass.{AsciiClass}
use Rattle.slice_group_simd.proofs.Beginnings.{count_is_starts, starts-append, starts_few}
use Rattle.slice_group_simd.proofs.class_counts.class_counts_add_up.Goals as goal

class_after-append : (before : Option AsciiClass) (xs ys : List ℕ) → class_after before (xs ++ ys) ≡ class_after (class_after before xs) ys
class_after-append before [] ys = refl
class_after-append before (x ∷ xs) ys = class_after-append (Some (ascii_class x)) xs ys

pub returns-clause-parts : goal.returns-clause-parts
returns-clause-parts c class before xs ys =
    count_is_starts class before (xs ++ ys) ∙ starts-append class before xs ys
    ∙ sym (ap₂ (λ m n. m + n) (count_is_starts class before xs) (count_is_starts class (class_after before xs) ys))

pub returns-clause-step : goal.returns-clause-step
returns-clause-step c class before b bs =
    count_is_starts class before (b ∷ bs)
    ∙ ap (λ n. begins class before (ascii_class b) + n) (sym (count_is_starts class (Some (ascii_class b)) bs))

pub returns-clause-most : goal.returns-clause-most
returns-clause-most c class before bs = omega (arith, count_is_starts class before bs, starts_few class before bs)

pub returns-clause-after : goal.returns-clause-after
returns-clause-after c = class_after-append
