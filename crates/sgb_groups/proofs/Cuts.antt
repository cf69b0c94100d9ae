-- A call of an iterator for reading is a call on what it shows; and a group cut off a part between two places.
use Rattle.std.proofs.Common.{◌≡◌, ℕ, ◌+◌, ◌-◌, ◌<◌, ◌≤◌, true, List, ◌++◌, length, drop, min, Option}
use Rattle.std.proofs.Common.{None, Some, arith, ap, subst, ◌∙◌, sym}
use Rattle.std.proofs.Math.Nat.{min-eq_left}
use Rattle.std.proofs.lemmas.Bool.Decides.{nat_tests}
use Rattle.std.proofs.lemmas.List.{drop_at, drop_min}
use Rattle.std.specs.Prelude.{option_copied, slice_range}
use Rattle.std.specs.Borrow.{Bor}
use Rattle.sgb_split.specs.declared.end.End.{End}
use Rattle.sgb_split.specs.declared.end.End.TheVariants.{Front, Back}
use Rattle.sgb_split.specs.Calls.{CallAt, IsGroupAt, Place, part_between, place_after}
use Rattle.sgb_split.proofs.Lists.Between.{between_places}
use Rattle.sgb_split.proofs.Lists.Ranges.{length-range}
use Rattle.sgb_groups.specs.declared.groups.SliceGroups.{SliceGroups}
use Rattle.sgb_groups.specs.Gives.{groups_of, Gives, lies_within}
use Rattle.sgb_groups.proofs.Parts.{range_split}

module _ {T J W : Type 0} (asks : End → List T → ℕ → J → J → Type 0) where
  pub call : (e : End) (s : SliceGroups T J W) (o : Option (Bor (List T))) (t : SliceGroups T J W) → Gives asks e s o t
      → CallAt asks e (groups_of s) (option_copied o) (groups_of t)
  call e s None t h = (h.0, ap groups_of h.1)
  call e s (Some x) t h = h.call

-- a place of a list is one that lies in it or at its end
pub place_within : {T : Type 0} (xs : List T) (n : ℕ) → lies_within xs n ≡ true → n ≤ length xs
place_within xs n e = grind (arith, nat_tests)

pub within_place : {T : Type 0} (xs : List T) (n : ℕ) → n ≤ length xs → lies_within xs n ≡ true
within_place xs n l = grind (arith, nat_tests)

-- the part between two places that lie in order in the list
pub part_is : {T : Type 0} (xs : List T) (low high : ℕ) → low ≤ high → high ≤ length xs
    → part_between (lies_within xs) xs low high ≡ slice_range xs low high
part_is xs low high order inside =
    between_places (lies_within xs) xs low high
    (record { order = order; low_is = within_place xs low (omega arith); high_is = within_place xs high inside })

-- such a part without its first elements
pub part_behind : {T : Type 0} (xs : List T) (low high len : ℕ) → low ≤ high → high ≤ length xs
    → slice_range xs (low + min len (high - low)) high ≡ drop len (slice_range xs low high)
part_behind xs low high len order inside =
    let n = min len (high - low) in
    let front = slice_range xs low (low + n) in
    let behind = slice_range xs (low + n) high in
    let long : length front ≡ n = omega (arith, length-range xs low (low + n) (omega arith) (omega arith)) in
    sym (drop_at front behind n long) ∙ ap (drop n) (sym (range_split xs low (low + n) high (omega arith) (omega arith)))
    ∙ ap (λ (k : ℕ). drop (min len k) (slice_range xs low high)) (sym (length-range xs low high order inside))
    ∙ drop_min len (slice_range xs low high)

-- the place `low` of a list, or its end
abbrev from_low : {T : Type 0} → List T → ℕ → Place T
from_low xs low = record { input = xs; offset = min low (length xs) }

-- a group of n elements at the front of such a part leaves the place behind it
pub moved_behind : {T : Type 0} (xs : List T) (low high n : ℕ) → high ≤ length xs → low + n ≤ high
    → from_low xs (low + n) ≡ place_after Front (length (slice_range xs low (low + n))) (from_low xs low)
moved_behind xs low high n inside within =
    ap (λ (k : ℕ). record { input = xs; offset = k }) (omega (
      arith,
      min-eq_left {n = low} {m = length xs} (omega arith),
      min-eq_left {n = low + n} {m = length xs} (omega arith),
      length-range xs low (low + n) (omega arith) (omega arith),
    ))

-- a group of n elements at an end of such a part
module _ {T J : Type 0} (asks : End → List T → ℕ → J → J → Type 0) (xs : List T) (low high : ℕ) (j k : J)
    (inside : high ≤ length xs) (n : ℕ) (nonempty : 0 < n) (within : low + n ≤ high) where
  abbrev cut_of : ℕ → ℕ → List T
  cut_of a b = slice_range xs a b

  asked_of : (e : End) (group : List T) → n ≡ length group → asks e (cut_of low high) n j k
      → asks e (part_between (lies_within xs) xs low high) (length group) j k
  asked_of e group is asked =
      subst (λ (ys : List T). asks e ys (length group) j k) (sym (part_is xs low high (omega arith) inside))
      (subst (λ (m : ℕ). asks e (cut_of low high) m j k) is asked)

  pub front_cut : asks Front (cut_of low high) n j k
      → IsGroupAt asks Front (record { remainder = part_between (lies_within xs) xs low high; judge = j }) (cut_of low (low + n))
      (record { remainder = part_between (lies_within xs) xs (low + n) high; judge = k })
  front_cut asked =
      let len : n ≡ length (cut_of low (low + n)) = omega (arith, length-range xs low (low + n) (omega arith) (omega arith)) in
      record {
        nonempty = omega (arith, len);
        cut =
            part_is xs low high (omega arith) inside ∙ range_split xs low (low + n) high (omega arith) within
            ∙ ap (λ (ys : List T). cut_of low (low + n) ++ ys) (sym (part_is xs (low + n) high within inside));
        asked = asked_of Front (cut_of low (low + n)) len asked;
      }

  pub back_cut : asks Back (cut_of low high) n j k
      → IsGroupAt asks Back (record { remainder = part_between (lies_within xs) xs low high; judge = j }) (cut_of (high - n) high)
      (record { remainder = part_between (lies_within xs) xs low (high - n); judge = k })
  back_cut asked =
      let len : n ≡ length (cut_of (high - n) high) = omega (arith, length-range xs (high - n) high (omega arith) inside) in
      record {
        nonempty = omega (arith, len);
        cut =
            part_is xs low high (omega arith) inside ∙ range_split xs low (high - n) high (omega arith) (omega arith)
            ∙ ap (λ (ys : List T). ys ++ cut_of (high - n) high) (sym (part_is xs low (high - n) (omega arith) (omega arith)));
        asked = asked_of Back (cut_of (high - n) high) len asked;
      }
