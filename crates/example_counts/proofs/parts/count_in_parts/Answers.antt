use Rattle.std.proofs.Common.{◌≡◌, ◌+◌, ◌-◌, ◌++◌, Bool, true, false, List, ℕ, cond, length, nat_eq, take, drop, refl, sym}
use Rattle.std.proofs.Common.{◌∙◌, subst, arith}
use Rattle.std.proofs.lemmas.List.{take-append-drop}
use Rattle.std.specs.List.{slice_get}
use Rattle.slice_group_by.specs.Split.{split}
use Rattle.slice_group_by.specs.Seams.{are_accepted, is_accepted_across}
use Rattle.example_counts.proofs.GroupLens.{across_slices}
use Rattle.example_counts.proofs.parts.count_in_parts.Goals as goal

-- the number of groups, by whether the seam is accepted
counted : (xs left right : List ℕ) (m : ℕ) (b : Bool) → left ≡ take m xs → right ≡ drop m xs
    → length (split nat_eq (left ++ right)) + cond (is_accepted_across nat_eq left right) 1 0
    ≡ length (split nat_eq left) + length (split nat_eq right)
    → b ≡ are_accepted nat_eq (slice_get left (length left - 1)) (slice_get right 0)
    → length (split nat_eq xs) + cond b 1 0 ≡ length (split nat_eq left) + length (split nat_eq right)
counted xs left right m b e f count is =
    let whole : left ++ right ≡ xs = (λ i. e i ++ f i) ∙ take-append-drop m xs in
    let across : b ≡ is_accepted_across nat_eq left right = is ∙ across_slices left right in
    subst (λ l. length (split nat_eq l) + cond b 1 0 ≡ length (split nat_eq left) + length (split nat_eq right)) whole
    (subst (λ t. length (split nat_eq (left ++ right)) + cond t 1 0 ≡ length (split nat_eq left) + length (split nat_eq right)) (sym across)
    count)

pub overflow_sub-result : goal.overflow_sub-result
overflow_sub-result c =
    let total = counted c.args.slice.now c.split_at.result.0.now c.split_at.result.1.now c.args.mid true c.split_at.ensures.front c.split_at.ensures.back
    (c.splits_join.ensures.count nat_eq c.split_at.result.0.now c.split_at.result.1.now) (rw (← c.if-are_equal.true, c.are_equal.ensures, c.last.ensures.value, c.first.ensures.value) refl) in
    omega (arith, total, c.count_groups.ensures.count, c.count_groups-2.ensures.count)

pub returns-then-are_equal : goal.returns-then-are_equal
returns-then-are_equal c =
    let total = counted c.args.slice.now c.split_at.result.0.now c.split_at.result.1.now c.args.mid true c.split_at.ensures.front c.split_at.ensures.back
    (c.splits_join.ensures.count nat_eq c.split_at.result.0.now c.split_at.result.1.now) (rw (← c.if-are_equal.true, c.are_equal.ensures, c.last.ensures.value, c.first.ensures.value) refl) in
    omega (arith, total, c.count_groups.ensures.count, c.count_groups-2.ensures.count)

pub returns-else-are_equal : goal.returns-else-are_equal
returns-else-are_equal c =
    let total = counted c.args.slice.now c.split_at.result.0.now c.split_at.result.1.now c.args.mid false c.split_at.ensures.front c.split_at.ensures.back
    (c.splits_join.ensures.count nat_eq c.split_at.result.0.now c.split_at.result.1.now) (rw (← c.if-are_equal.false, c.are_equal.ensures, c.last.ensures.value, c.first.ensures.value) refl) in
    omega (arith, total, c.count_groups.ensures.count, c.count_groups-2.ensures.count)
