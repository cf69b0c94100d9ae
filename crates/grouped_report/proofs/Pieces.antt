-- Sorted rows, and the summaries of the pieces of their split.
use Rattle.std.proofs.Common.{◌≡◌, ◌≢◌, ℕ, Bool, true, false, List, [], ◌∷◌, ◌++◌, map, refl, sym, ap, ◌∙◌, subst, Some, append-nil}
use Rattle.std.specs.List.{AllByRecursion, AllZip}
use Rattle.std.specs.List.Sorted.{IsSortedByKey, IsStrictlySortedBy}
use Rattle.std.specs.Ordering.{is_lt}
use Rattle.std.specs.declared.cmp.Ordering.TheVariants.{Less}
use Rattle.slice_group_by.specs.Split.{IsAccepted, IsRefusedAcross, IsSplit, concat, first, last, neighbours, split}
use Rattle.grouped_report.specs.Groups.{Row, Summarized, Summary, group_cmp, group_of, same_fields, same_group, summary}
use Rattle.grouped_report.specs.Sums.{IsOf, IsSummed, sum_cmp}
use Rattle.grouped_report.proofs.Orders.{fields_equiv, fields_same, fields_total, less_differs, less_from, less_not_back, same_not_back}
use Rattle.grouped_report.proofs.Lists.{AllBeside, all_last, ascend_from, beside_ascends, beside_from, beside_joined, beside_seam}
use Rattle.grouped_report.proofs.Lists.{sorted_from}

abbrev falls : Row → Row → Bool
falls x y = is_lt (group_cmp x.group y.group)

abbrev InOrder : Row × Row → Type 0
InOrder q = falls q.1 q.0 ≡ false

-- the rows of a piece have one group
alike : (k : List (List ℕ)) (x : Row) (xs : List Row) → x.group ≡ k → IsAccepted same_group (x ∷ xs)
    → AllByRecursion (λ row. row.group ≡ k) (x ∷ xs)
alike k x [] e accepted = (e, tt)
alike k x (y ∷ ys) e accepted = (e, alike k y ys (sym (fields_same x.group y.group accepted.0) ∙ e) accepted.1)

of_pieces : (gs : List (List Row)) → AllByRecursion (λ g. g ≢ []) gs → AllByRecursion (IsAccepted same_group) gs
    → AllZip IsOf gs (map summary gs)
of_pieces [] some accepted = tt
of_pieces ([] ∷ gs) some accepted = absurd (some.0 refl)
of_pieces ((x ∷ xs) ∷ gs) some accepted = (
  record { nonempty = some.0; alike = alike x.group x xs refl accepted.0; is = refl },
  of_pieces gs some.1 accepted.1,
)

climb_pieces : (gs : List (List Row)) → AllByRecursion (λ g. g ≢ []) gs → AllByRecursion (IsAccepted same_group) gs
    → AllByRecursion (IsRefusedAcross same_group) (neighbours gs) → AllBeside InOrder (concat gs)
    → AllBeside (λ q. sum_cmp q.0 q.1 ≡ Less) (map summary gs)
climb_pieces [] some accepted refused up = tt
climb_pieces (g ∷ []) some accepted refused up = tt
climb_pieces ([] ∷ h ∷ hs) some accepted refused up = absurd (some.0 refl)
climb_pieces ((x ∷ xs) ∷ [] ∷ hs) some accepted refused up = absurd (some.1.0 refl)
climb_pieces ((x ∷ xs) ∷ (y ∷ ys) ∷ hs) some accepted refused up =
    let (z, is_last, across, rest) = beside_seam InOrder x xs y (ys ++ concat hs) up in
    let of_group : z.group ≡ x.group = all_last (λ row. row.group ≡ x.group) x xs z (alike x.group x xs refl accepted.0) is_last in
    let less : group_cmp z.group y.group ≡ Less = less_from z.group y.group (refused.0 z y is_last refl) across in
    (subst (λ k. group_cmp k y.group ≡ Less) of_group less, climb_pieces ((y ∷ ys) ∷ hs) some.1 accepted.1 refused.1 rest)

-- those of the pieces of sorted rows
pub of_sorted : (rows : List Row) (gs : List (List Row)) → IsSplit same_group rows gs → IsSortedByKey group_of group_cmp rows
    → AllZip IsOf gs (map summary gs) × IsStrictlySortedBy sum_cmp (map summary gs)
of_sorted rows gs is sorted = (
  of_pieces gs is.nonempty is.accepted,
  ascend_from sum_cmp (λ a b c. fields_total.trans a.group b.group c.group) (map summary gs)
      (climb_pieces gs is.nonempty is.accepted is.refused (subst (AllBeside InOrder) (sym is.covers) (beside_from falls rows sorted))),
)

-- and the other way round: groups that ascend are the pieces of their rows, which are sorted
accepted_of : (k : List (List ℕ)) (g : List Row) → AllByRecursion (λ row. row.group ≡ k) g → IsAccepted same_group g
accepted_of k [] all = tt
accepted_of k (x ∷ []) all = tt
accepted_of k (x ∷ y ∷ ys) all = (
  subst (λ l. same_fields x.group l ≡ true) (all.0 ∙ sym all.1.0) (fields_equiv.refl x.group),
  accepted_of k (y ∷ ys) all.1,
)

in_order_of : (k : List (List ℕ)) (g : List Row) → AllByRecursion (λ row. row.group ≡ k) g → AllBeside InOrder g
in_order_of k [] all = tt
in_order_of k (x ∷ []) all = tt
in_order_of k (x ∷ y ∷ ys) all = (same_not_back x.group y.group k all.0 all.1.0, in_order_of k (y ∷ ys) all.1)

last_of : (g : List Row) (s : Summary) (z : Row) → IsOf g s → last g ≡ Some z → z.group ≡ s.group
last_of [] s z is e = absurd (is.nonempty refl)
last_of (x ∷ xs) s z is e = all_last (λ row. row.group ≡ s.group) x xs z is.alike e

first_of : (g more : List Row) (s : Summary) (z : Row) → IsOf g s → first (g ++ more) ≡ Some z → z.group ≡ s.group
first_of [] more s z is e = absurd (is.nonempty refl)
first_of (x ∷ xs) more s z is e = let same : x ≡ z = cc in subst (λ (row : Row). row.group ≡ s.group) same is.alike.0

between : (a b s t : List (List ℕ)) → a ≡ s → b ≡ t → group_cmp s t ≡ Less → group_cmp a b ≡ Less
between a b s t e f less = subst (λ k. group_cmp k b ≡ Less) (sym e) (subst (λ k. group_cmp s k ≡ Less) (sym f) less)

pieces_of : (gs : List (List Row)) (ss : List Summary) → AllZip IsOf gs ss → AllBeside (λ q. sum_cmp q.0 q.1 ≡ Less) ss
    → IsSplit same_group (concat gs) gs × AllBeside InOrder (concat gs) × (ss ≡ map summary gs)
pieces_of [] [] are up = (record { covers = refl; nonempty = tt; accepted = tt; refused = tt }, tt, refl)
pieces_of [] (s ∷ ss) are up = absurd are
pieces_of (g ∷ gs) [] are up = absurd are
pieces_of ([] ∷ gs) (s ∷ ss) are up = absurd (are.0.nonempty refl)
pieces_of ((x ∷ xs) ∷ []) (s ∷ []) are up = (
  record { covers = refl; nonempty = (are.0.nonempty, tt); accepted = (accepted_of s.group (x ∷ xs) are.0.alike, tt); refused = tt },
  subst (AllBeside InOrder) (sym (append-nil (x ∷ xs))) (in_order_of s.group (x ∷ xs) are.0.alike),
  ap (λ (t : Summary). t ∷ []) are.0.is,
)
pieces_of ((x ∷ xs) ∷ []) (s ∷ t ∷ ts) are up = absurd are.1
pieces_of ((x ∷ xs) ∷ h ∷ hs) (s ∷ []) are up = absurd are.1
pieces_of ((x ∷ xs) ∷ h ∷ hs) (s ∷ t ∷ ts) are up =
    let (rest, sorted, is) = pieces_of (h ∷ hs) (t ∷ ts) are.1 up.1 in
    let less = λ (a b : Row) (more : List Row) (e : last (x ∷ xs) ≡ Some a) (f : first (h ++ more) ≡ Some b).
    between a.group b.group s.group t.group (last_of (x ∷ xs) s a are.0 e) (first_of h more t b are.1.0 f) up.0 in (
      record {
        covers = refl;
        nonempty = (are.0.nonempty, rest.nonempty);
        accepted = (accepted_of s.group (x ∷ xs) are.0.alike, rest.accepted);
        refused = (
          (λ a b e f. less_differs a.group b.group (less a b [] e (subst (λ (l : List Row). first l ≡ Some b) (sym (append-nil h)) f))),
          rest.refused,
        );
      },
      beside_joined InOrder x xs (concat (h ∷ hs)) (in_order_of s.group (x ∷ xs) are.0.alike) sorted
          (λ a b e f. less_not_back a.group b.group (less a b (concat hs) e f)),
      (λ i. are.0.is i ∷ is i),
    )

-- where no row waits, the summaries are those of the groups of the rows
pub all_summarized : (rows : List Row) (sums : List Summary)
    → ((sorted : List Row) (gs : List (List Row)) → IsSplit same_group sorted gs → gs ≡ split same_group sorted)
    → IsSummed rows sums [] → Summarized rows sums
all_summarized rows sums unique summed =
    let rows_are = concat summed.groups in
    let (is, sorted, are) = pieces_of summed.groups sums summed.are_of (beside_ascends sum_cmp sums summed.ascend) in
    record {
      sorted = rows_are;
      are_sorted = record { permutation = rw append-nil at summed.permutation; ascend = sorted_from falls rows_are sorted };
      are_summaries = are ∙ ap (map summary) (unique rows_are summed.groups is);
    }
