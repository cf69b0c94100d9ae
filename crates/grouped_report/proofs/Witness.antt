-- Summaries, and the rows that they are of.
use Rattle.std.proofs.Common.{◌≡◌, ℕ, ◌<◌, false, List, [], ◌∷◌, ◌++◌, flat_map, length, get_or, set, refl, sym, ap, ◌∙◌, subst, arith}
use Rattle.std.proofs.Common.{suc, zero, append_assoc, append-nil}
use Rattle.std.specs.List.{AllByRecursion, AllZip, Contains}
use Rattle.std.specs.List.Sorted.{IsNonDecreasingBy, IsPermutation, IsSortedBy, IsStrictlySortedBy}
use Rattle.std.specs.Ordering.{is_lt, ordering_index, ordering_reverse}
use Rattle.std.specs.declared.cmp.Ordering.TheVariants.{Less, Equal}
use Rattle.std.proofs.lemmas.Grind.{flat_map-append}
use Rattle.std.proofs.lemmas.List.Sorted.{IsPermutation-refl, IsPermutation-trans, IsPermutation-append, IsPermutation-append_comm}
use Rattle.std.proofs.lemmas.List.Sorted.{IsPermutation-append_left, IsPermutation-append_right, searchable_from_sorted}
use Rattle.grouped_report.proofs.Lists.{all_append, all_of_first, all_of_rest, all_when}
use Rattle.slice_group_by.specs.Split.{concat}
use Rattle.slice_merge_join.specs.Merge.{AllStand, Climbs, IsBelow, IsSortedFor, Merges, Part, lefts, rights}
use Rattle.grouped_report.specs.Groups.{Row, Summary, group_cmp, with_rows}
use Rattle.grouped_report.specs.Sums.{IsOf, IsOneOfEach, IsSummed, combine, sum_cmp, together}
use Rattle.grouped_report.proofs.Adding.{summary_both, summary_longer}
use Rattle.grouped_report.proofs.Orders.{cmp_itself, cmp_same, fields_total, less_not_back}
use Rattle.grouped_report.proofs.Lists.{AllBeside, Below, all_where, ascend_apart, ascend_joined, beside_ascends, some_behind, sorted_from}

-- a row more, and the rows of two summaries of one group
row_more : (g : List Row) (s : Summary) (row : Row) → IsOf g s → s.group ≡ row.group → IsOf (g ++ row ∷ []) (with_rows s (row ∷ []))
row_more g s row is_of same = record {
  nonempty = some_behind g (row ∷ []) is_of.nonempty;
  alike = all_append (λ r. r.group ≡ s.group) g (row ∷ []) is_of.alike (sym same, tt);
  is = ap (λ (t : Summary). with_rows t (row ∷ [])) is_of.is ∙ summary_longer g (row ∷ []) is_of.nonempty;
}

rows_both : (g h : List Row) (s t : Summary) → IsOf g s → IsOf h t → s.group ≡ t.group → IsOf (g ++ h) (combine s t)
rows_both g h s t left right same = record {
  nonempty = some_behind g h left.nonempty;
  alike = all_append (λ r. r.group ≡ s.group) g h left.alike (subst (λ k. AllByRecursion (λ r. r.group ≡ k) h) (sym same) right.alike);
  is = (λ i. combine (left.is i) (right.is i)) ∙ summary_both g h left.nonempty right.nonempty;
}

-- the summary at a place, with a row more
pub row_at : (i : ℕ) (gs : List (List Row)) (ss : List Summary) (row : Row) (d : Summary) → AllZip IsOf gs ss → i < length ss
    → (get_or ss i d).group ≡ row.group
    → (ks : List (List Row)) × AllZip IsOf ks (set ss i (with_rows (get_or ss i d) (row ∷ [])))
    × IsPermutation (concat gs ++ row ∷ []) (concat ks)
row_at i [] [] row d are l same = absurd (omega (arith, l))
row_at i [] (s ∷ ss) row d are l same = absurd are
row_at i (g ∷ gs) [] row d are l same = absurd are
row_at zero (g ∷ gs) (s ∷ ss) row d are l same = (
  (g ++ row ∷ []) ∷ gs,
  (row_more g s row are.0 same, are.1),
  rw (append_assoc g (concat gs) (row ∷ []), append_assoc g (row ∷ []) (concat gs))
      (IsPermutation-append_right g _ _ (IsPermutation-append_comm (concat gs) (row ∷ []))),
)
row_at (suc i) (g ∷ gs) (s ∷ ss) row d are l same =
    let (ks, are', moved) = row_at i gs ss row d are.1 (omega (arith, l)) same in
    (g ∷ ks, (are.0, are'), rw (append_assoc g (concat gs) (row ∷ [])) (IsPermutation-append_right g _ _ moved))

-- its place among the others stays
pub ascend_set : (i : ℕ) (ss : List Summary) (d s : Summary) → i < length ss → (get_or ss i d).group ≡ s.group
    → IsStrictlySortedBy sum_cmp ss
    → IsStrictlySortedBy sum_cmp (set ss i s)
unfolding IsStrictlySortedBy
ascend_set i [] d s l same up = absurd (omega (arith, l))
ascend_set zero (t ∷ ts) d s l same up = (subst (λ k. AllByRecursion (λ u. group_cmp k u.group ≡ Less) ts) same up.0, up.1)
ascend_set (suc i) (t ∷ ts) d s l same up = (below i ts (omega (arith, l)) same up.0, ascend_set i ts d s (omega (arith, l)) same up.1)
  where
    below : (i : ℕ) (ts : List Summary) → i < length ts → (get_or ts i d).group ≡ s.group → AllByRecursion (λ u. sum_cmp t u ≡ Less) ts
        → AllByRecursion (λ u. sum_cmp t u ≡ Less) (set ts i s)
    below i [] l same all = absurd (omega (arith, l))
    below zero (u ∷ us) l same all = (subst (λ k. group_cmp t.group k ≡ Less) same all.0, all.1)
    below (suc i) (u ∷ us) l same all = (all.0, below i us (omega (arith, l)) same all.1)

-- the groups of the first summaries, and those of the others
groups_apart : (gs : List (List Row)) (ss ts : List Summary) → AllZip IsOf gs (ss ++ ts)
    → (left : List (List Row)) × (right : List (List Row)) × (gs ≡ left ++ right) × AllZip IsOf left ss × AllZip IsOf right ts
groups_apart gs [] ts are = ([], gs, refl, tt, are)
groups_apart [] (s ∷ ss) ts are = absurd are
groups_apart (g ∷ gs) (s ∷ ss) ts are =
    let (left, right, is, l, r) = groups_apart gs ss ts are.1 in
    (g ∷ left, right, ap (λ (hs : List (List Row)). g ∷ hs) is, (are.0, l), r)

groups_joined : (gs hs : List (List Row)) (ss ts : List Summary) → AllZip IsOf gs ss → AllZip IsOf hs ts → AllZip IsOf (gs ++ hs) (ss ++ ts)
groups_joined [] hs [] ts l r = r
groups_joined [] hs (s ∷ ss) ts l r = absurd l
groups_joined (g ∷ gs) hs [] ts l r = absurd l
groups_joined (g ∷ gs) hs (s ∷ ss) ts l r = (l.0, groups_joined gs hs ss ts l.1 r)

rows_together : (gs hs : List (List Row)) (as' bs : List Summary) → IsOneOfEach as' bs → AllZip IsOf gs as' → AllZip IsOf hs bs
    → (ks : List (List Row)) × AllZip IsOf ks (together as' bs) × IsPermutation (concat gs ++ concat hs) (concat ks)
rows_together [] hs [] bs one l r = (hs, r, IsPermutation-refl (concat hs))
rows_together (g ∷ gs) hs [] bs one l r = absurd l
rows_together gs [] (a ∷ as') [] one l r = (gs, l, rw (append-nil (concat gs)) (IsPermutation-refl (concat gs)))
rows_together gs (h ∷ hs) (a ∷ as') [] one l r = absurd r
rows_together [] hs (a ∷ as') (b ∷ bs) one l r = absurd l
rows_together (g ∷ gs) [] (a ∷ as') (b ∷ bs) one l r = absurd r
rows_together (g ∷ g' ∷ gs) (h ∷ hs) (a ∷ as') (b ∷ bs) one l r = absurd (subst (AllZip IsOf (g' ∷ gs)) one.0 l.1)
rows_together (g ∷ []) (h ∷ h' ∷ hs) (a ∷ as') (b ∷ bs) one l r = absurd (subst (AllZip IsOf (h' ∷ hs)) one.1 r.1)
rows_together (g ∷ []) (h ∷ []) (a ∷ as') (b ∷ bs) one l r = (
  (g ++ h) ∷ [],
  (rows_both g h a b l.0 r.0 one.2, tt),
  rw (append-nil g, append-nil h, append-nil (g ++ h)) (IsPermutation-refl (g ++ h)),
)

regroup : (a b c d k l : List Row) → IsPermutation (a ++ c) k → IsPermutation (b ++ d) l → IsPermutation ((a ++ b) ++ (c ++ d)) (k ++ l)
regroup a b c d k l p q =
    let swapped : IsPermutation ((a ++ b) ++ (c ++ d)) ((a ++ c) ++ (b ++ d)) =
    rw (append_assoc a b (c ++ d), ← append_assoc b c d, append_assoc a c (b ++ d), ← append_assoc c b d)
    (IsPermutation-append_right a _ _ (IsPermutation-append_left d _ _ (IsPermutation-append_comm b c))) in
    IsPermutation-trans _ _ _ swapped (IsPermutation-append _ _ _ _ p q)

concat_moved : (gs hs g1 g2 h1 h2 k1 k2 : List (List Row)) → gs ≡ g1 ++ g2 → hs ≡ h1 ++ h2
    → IsPermutation (concat g1 ++ concat h1) (concat k1) → IsPermutation (concat g2 ++ concat h2) (concat k2)
    → IsPermutation (concat gs ++ concat hs) (concat (k1 ++ k2))
concat_moved gs hs g1 g2 h1 h2 k1 k2 gs_are hs_are moved1 moved2 =
    rw (
      gs_are,
      hs_are,
      flat_map-append (λ (g : List Row). g) g1 g2,
      flat_map-append (λ (g : List Row). g) h1 h2,
      flat_map-append (λ (g : List Row). g) k1 k2,
    )
    (regroup (concat g1) (concat g2) (concat h1) (concat h2) (concat k1) (concat k2) moved1 moved2)

-- the parts of a merge, and what is made of them
abbrev pub Parts : Type 0
Parts = List (Part Summary Summary)

abbrev pub sums_of : Parts → List Summary
sums_of ps = flat_map (λ p. together (lefts p) (rights p)) ps

rows_of_parts : (ps : Parts) (gs hs : List (List Row)) → AllByRecursion (λ p. IsOneOfEach (lefts p) (rights p)) ps
    → AllZip IsOf gs (flat_map lefts ps) → AllZip IsOf hs (flat_map rights ps)
    → (ks : List (List Row)) × AllZip IsOf ks (sums_of ps) × IsPermutation (concat gs ++ concat hs) (concat ks)
rows_of_parts [] [] [] one l r = ([], tt, IsPermutation-refl [])
rows_of_parts [] [] (h ∷ hs) one l r = absurd r
rows_of_parts [] (g ∷ gs) hs one l r = absurd l
rows_of_parts (p ∷ ps) gs hs one l r =
    let (g1, g2, gs_are, l1, l2) = groups_apart gs (lefts p) (flat_map lefts ps) l in
    let (h1, h2, hs_are, r1, r2) = groups_apart hs (rights p) (flat_map rights ps) r in
    let (k1, are1, moved1) = rows_together g1 h1 (lefts p) (rights p) one.0 l1 r1 in
    let (k2, are2, moved2) = rows_of_parts ps g2 h2 one.1 l2 r2 in (
      k1 ++ k2,
      groups_joined k1 k2 (together (lefts p) (rights p)) (sums_of ps) are1 are2,
      concat_moved gs hs g1 g2 h1 h2 k1 k2 gs_are hs_are moved1 moved2,
    )

-- an element is below what is made of parts if it is below both sides of them
all_together : (P : Summary → Type 0) → ((a b : Summary) → P a → P (combine a b)) → (as' bs : List Summary) → AllByRecursion P as'
    → AllByRecursion P bs → AllByRecursion P (together as' bs)
all_together P both [] bs l r = r
all_together P both (a ∷ as') [] l r = l
all_together P both (a ∷ as') (b ∷ bs) l r = (both a b l.0, tt)

below_parts : (k : Summary) (ps : Parts) → AllByRecursion (λ t. sum_cmp k t ≡ Less) (flat_map lefts ps)
    → AllByRecursion (λ t. sum_cmp k t ≡ Less) (flat_map rights ps) → AllByRecursion (λ t. sum_cmp k t ≡ Less) (sums_of ps)
below_parts k [] l r = tt
below_parts k (p ∷ ps) l r =
    let P = λ (t : Summary). sum_cmp k t ≡ Less in
    all_append P (together (lefts p) (rights p)) (sums_of ps)
    (all_together P (λ a b h. h) (lefts p) (rights p) (all_of_first P (lefts p) (flat_map lefts ps) l)
    (all_of_first P (rights p) (flat_map rights ps) r))
    (below_parts k ps (all_of_rest P (lefts p) (flat_map lefts ps) l) (all_of_rest P (rights p) (flat_map rights ps) r))

-- the elements of a part are below those of the other side in later parts
lefts_below : (p : Part Summary Summary) (ps : Parts) → AllByRecursion (IsBelow sum_cmp p) ps
    → (x : Summary) → Contains (lefts p) x → AllByRecursion (λ t. sum_cmp x t ≡ Less) (flat_map rights ps)
lefts_below p [] below x at = tt
lefts_below p (q ∷ qs) below x at =
    all_append (λ t. sum_cmp x t ≡ Less) (rights q) (flat_map rights qs)
    (all_when (λ t. sum_cmp x t ≡ Less) (rights q) (λ y there. below.0.0 x y at there)) (lefts_below p qs below.1 x at)

rights_below : (p : Part Summary Summary) (ps : Parts) → AllByRecursion (IsBelow sum_cmp p) ps
    → (y : Summary) → Contains (rights p) y → AllByRecursion (λ t. sum_cmp y t ≡ Less) (flat_map lefts ps)
rights_below p [] below y at = tt
rights_below p (q ∷ qs) below y at =
    all_append (λ t. sum_cmp y t ≡ Less) (lefts q) (flat_map lefts qs)
    (all_when (λ t. sum_cmp y t ≡ Less) (lefts q)
    (λ x there. fields_total.antisymm y.group x.group ∙ ap ordering_reverse (below.0.1 x y there at))) (rights_below p qs below.1 y at)

ascend_together : (as' bs : List Summary) → IsStrictlySortedBy sum_cmp as' → IsStrictlySortedBy sum_cmp bs
    → IsStrictlySortedBy sum_cmp (together as' bs)
unfolding IsStrictlySortedBy
ascend_together [] bs l r = r
ascend_together (a ∷ as') [] l r = l
ascend_together (a ∷ as') (b ∷ bs) l r = (tt, tt)

ascend_parts : (ps : Parts) → Climbs sum_cmp ps → IsStrictlySortedBy sum_cmp (flat_map lefts ps)
    → IsStrictlySortedBy sum_cmp (flat_map rights ps) → IsStrictlySortedBy sum_cmp (sums_of ps)
unfolding IsStrictlySortedBy
ascend_parts [] climbs l r = tt
ascend_parts (p ∷ ps) climbs l r =
    let L = flat_map lefts ps in
    let R = flat_map rights ps in
    let (l1, l2, left) = ascend_apart sum_cmp (lefts p) L l in
    let (r1, r2, right) = ascend_apart sum_cmp (rights p) R r in
    let above = all_where (λ x. Below sum_cmp x L) (λ x. Below sum_cmp x R) (λ x. Below sum_cmp x (sums_of ps)) (λ x. below_parts x ps) in
    ascend_joined sum_cmp (together (lefts p) (rights p)) (sums_of ps) (ascend_together (lefts p) (rights p) l1 r1)
    (ascend_parts ps climbs.1 l2 r2)
    (all_together (λ x. Below sum_cmp x (sums_of ps)) (λ a b h. h) (lefts p) (rights p)
    (above (lefts p) left (all_when (λ x. Below sum_cmp x R) (lefts p) (lefts_below p ps climbs.0)))
    (above (rights p) (all_when (λ x. Below sum_cmp x L) (rights p) (rights_below p ps climbs.0)) right))

-- of lists that ascend, a part of both sides has one of each
single : (a b : Summary) (as' : List Summary) → IsStrictlySortedBy sum_cmp (a ∷ as')
    → ((x : Summary) → Contains (a ∷ as') x → x.group ≡ b.group)
    → as' ≡ []
unfolding IsStrictlySortedBy
single a b [] up same = refl
single a b (a' ∷ as') up same =
    let one : a.group ≡ b.group = same a (0, omega arith, refl) in
    let other : a'.group ≡ b.group = same a' (1, omega arith, refl) in
    let e : group_cmp b.group b.group ≡ Less = subst (λ k. group_cmp k b.group ≡ Less) one
    (subst (λ k. group_cmp a.group k ≡ Less) other up.0.0) in
    let itself = cmp_itself b.group in cc

one_of_each : (as' bs : List Summary) → IsStrictlySortedBy sum_cmp as' → IsStrictlySortedBy sum_cmp bs → AllStand sum_cmp Equal as' bs
    → IsOneOfEach as' bs
one_of_each [] bs l r equal = tt
one_of_each (a ∷ as') [] l r equal = tt
one_of_each (a ∷ as') (b ∷ bs) l r equal = (
  single a b as' l (λ x at. cmp_same x.group b.group (equal x b at (0, omega arith, refl))),
  single b a bs r (λ y at. sym (cmp_same a.group y.group (equal a y (0, omega arith, refl) at))),
  cmp_same a.group b.group (equal a b (0, omega arith, refl) (0, omega arith, refl)),
)

all_one : (ps : Parts) → AllByRecursion (λ p. AllStand sum_cmp Equal (lefts p) (rights p)) ps
    → IsStrictlySortedBy sum_cmp (flat_map lefts ps) → IsStrictlySortedBy sum_cmp (flat_map rights ps)
    → AllByRecursion (λ p. IsOneOfEach (lefts p) (rights p)) ps
all_one [] equal l r = tt
all_one (p ∷ ps) equal l r =
    let (l1, l2, left) = ascend_apart sum_cmp (lefts p) (flat_map lefts ps) l in
    let (r1, r2, right) = ascend_apart sum_cmp (rights p) (flat_map rights ps) r in
    (one_of_each (lefts p) (rights p) l1 r1 equal.0, all_one ps equal.1 l2 r2)

pub ones_of_merge : (old fresh : List Summary) (ps : Parts) → Merges sum_cmp old fresh ps → IsStrictlySortedBy sum_cmp old
    → IsStrictlySortedBy sum_cmp fresh → AllByRecursion (λ p. IsOneOfEach (lefts p) (rights p)) ps
ones_of_merge old fresh ps merge l r =
    all_one ps merge.equal (subst (IsStrictlySortedBy sum_cmp) (sym merge.covers_left) l)
    (subst (IsStrictlySortedBy sum_cmp) (sym merge.covers_right) r)

-- two lists that ascend have a merge
pub have_merge : (ss ts : List Summary) → IsStrictlySortedBy sum_cmp ss → IsStrictlySortedBy sum_cmp ts → IsSortedFor sum_cmp ss ts
have_merge ss ts l r = record {
  columns = λ t at. searchable_from_sorted fields_total (λ (s : Summary). s.group) ss t.group (rises ss l);
  rows = λ s at. subst (λ (f : Summary → ℕ). IsNonDecreasingBy f ts)
      (λ i (t : Summary). ordering_index (fields_total.antisymm t.group s.group i))
      (searchable_from_sorted fields_total (λ (t : Summary). t.group) ts s.group (rises ts r));
  ties = λ s s' t t' a b c d first second third.
      subst (λ k. group_cmp k t'.group ≡ Equal) (cmp_same s.group t.group first ∙ sym (cmp_same s'.group t.group second)) third;
}
  where
    rises : (us : List Summary) → IsStrictlySortedBy sum_cmp us → IsSortedBy (λ a b. is_lt (group_cmp a.group b.group)) us
    rises us up = sorted_from (λ a b. is_lt (group_cmp a.group b.group)) us (each us (beside_ascends sum_cmp us up))
      where
        each : (vs : List Summary) → AllBeside (λ q. sum_cmp q.0 q.1 ≡ Less) vs
            → AllBeside (λ q. is_lt (group_cmp q.1.group q.0.group) ≡ false) vs
        each [] h = tt
        each (v ∷ []) h = tt
        each (v ∷ w ∷ vs) h = (less_not_back v.group w.group h.0, each (w ∷ vs) h.1)

-- what a merge makes of the summaries of some rows, and of those that wait
pub merged_summed : (rows waiting sorted : List Row) (old fresh : List Summary) (hs : List (List Row)) (ps : Parts)
    → Merges sum_cmp old fresh ps → IsSummed rows old waiting → IsPermutation waiting sorted → concat hs ≡ sorted → AllZip IsOf hs fresh
    → IsStrictlySortedBy sum_cmp fresh → IsSummed rows (sums_of ps) []
merged_summed rows waiting sorted old fresh hs ps merge summed moved cover are up =
    let l = subst (IsStrictlySortedBy sum_cmp) (sym merge.covers_left) summed.ascend in
    let r = subst (IsStrictlySortedBy sum_cmp) (sym merge.covers_right) up in
    let (ks, all, moves) = rows_of_parts ps summed.groups hs (ones_of_merge old fresh ps merge summed.ascend up)
    (subst (AllZip IsOf summed.groups) (sym merge.covers_left) summed.are_of) (subst (AllZip IsOf hs) (sym merge.covers_right) are) in
    record {
      groups = ks;
      are_of = all;
      ascend = ascend_parts ps merge.climbs l r;
      permutation = rw (append-nil (concat ks)) (IsPermutation-trans _ _ _ summed.permutation
          (IsPermutation-trans _ _ _ (IsPermutation-append_right (concat summed.groups) _ _ (rw cover moved)) moves));
    }

pub none_summed : IsSummed [] [] []
unfolding IsStrictlySortedBy
none_summed = record { groups = []; are_of = tt; ascend = tt; permutation = IsPermutation-refl [] }

-- a row more that waits, and one that is added in place
pub row_waits : (rows : List Row) (sums : List Summary) (waiting waiting' : List Row) (row : Row) → waiting' ≡ waiting ++ row ∷ []
    → IsSummed rows sums waiting → IsSummed (rows ++ row ∷ []) sums waiting'
row_waits rows sums waiting waiting' row is summed = record {
  groups = summed.groups;
  are_of = summed.are_of;
  ascend = summed.ascend;
  permutation = rw (is, ← append_assoc (concat summed.groups) waiting (row ∷ []))
      (IsPermutation-append_left (row ∷ []) _ _ summed.permutation);
}

pub row_added : (rows : List Row) (sums sums' : List Summary) (waiting : List Row) (row : Row) (i : ℕ) (d : Summary) → i < length sums
    → (get_or sums i d).group ≡ row.group → sums' ≡ set sums i (with_rows (get_or sums i d) (row ∷ [])) → IsSummed rows sums waiting
    → IsSummed (rows ++ row ∷ []) sums' waiting
row_added rows sums sums' waiting row i d l same is summed =
    let (ks, are, moved) = row_at i summed.groups sums row d summed.are_of l same in
    record {
      groups = ks;
      are_of = rw is are;
      ascend = rw is (ascend_set i sums d (with_rows (get_or sums i d) (row ∷ [])) l refl summed.ascend);
      permutation = IsPermutation-trans _ _ _ (IsPermutation-append_left (row ∷ []) _ _ summed.permutation)
          (IsPermutation-trans _ _ _ (swapped (concat summed.groups)) (IsPermutation-append_left waiting _ _ moved));
    }
  where
    swapped : (xs : List Row) → IsPermutation ((xs ++ waiting) ++ row ∷ []) ((xs ++ row ∷ []) ++ waiting)
    swapped xs =
        rw (append_assoc xs waiting (row ∷ []), append_assoc xs (row ∷ []) waiting)
        (IsPermutation-append_right xs _ _ (IsPermutation-append_comm waiting (row ∷ [])))
