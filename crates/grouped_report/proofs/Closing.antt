-- The group that is open, and what is made of those that are closed.
use Rattle.std.proofs.Common.{◌≡◌, ◌≢◌, Bool, true, not, List, [], ◌∷◌, ◌++◌, map, flat_map, append-nil, Option, None, Some, refl, sym}
use Rattle.std.proofs.Common.{ap, ◌∙◌, subst, slice_get}
use Rattle.std.specs.List.{AllByRecursion}
use Rattle.std.specs.Option.{option_to_list}
use Rattle.slice_group_stream.specs.Split.{IsAccepted, IsSplit, concat, last, split}
use Rattle.slice_group_stream.specs.Closing.{open_group, take_part}
use Rattle.slice_group_stream.specs.Streams.{across, begins_at, last_after}
use Rattle.grouped_report.specs.Groups.{Row, Summary, longer, same_fields, same_group, summary, summary_if}
use Rattle.grouped_report.proofs.Adding.{summary_longer}
use Rattle.grouped_report.proofs.Orders.{fields_equiv}
use Rattle.grouped_report.proofs.Lists.{some_behind}

-- all rows of a group have the fields of its first one
ends_with : (x : Row) (xs : List Row) (z : Row) → IsAccepted same_group (x ∷ xs) → last (x ∷ xs) ≡ Some z
    → same_fields x.group z.group ≡ true
ends_with x [] z a e = let same : x ≡ z = cc in rw (← same) (fields_equiv.refl x.group)
ends_with x (y ∷ ys) z a e = fields_equiv.congr x.group y.group z.group a.0 ∙ ends_with y ys z a.1 e

last_some : (x : Row) (xs : List Row) → last (x ∷ xs) ≡ None → ⊥
last_some x [] e = cc
last_some x (y ∷ ys) e = last_some y ys e

last_behind : (xs ys : List Row) → ys ≢ [] → last (xs ++ ys) ≡ last ys
last_behind [] ys some = refl
last_behind (x ∷ []) [] some = absurd (some refl)
last_behind (x ∷ []) (y ∷ ys) some = refl
last_behind (x ∷ y ∷ xs) ys some = last_behind (y ∷ xs) ys some

pub last_kept : (came rows : List Row) → last (came ++ rows) ≡ last_after (last came) rows
last_kept came [] = ap last (append-nil came)
last_kept came (y ∷ ys) = last_behind came (y ∷ ys) (λ e. cc) ∙ by (last (y ∷ ys)) refl
  where
    by : (o : Option Row) → last (y ∷ ys) ≡ o → last (y ∷ ys) ≡ last_after (last came) (y ∷ ys)
    by None e = absurd (last_some y ys e)
    by (Some z) e = rw e refl

last_open : (gs : List (List Row)) → AllByRecursion (λ g. g ≢ []) gs → last (concat gs) ≡ last (open_group gs)
last_open [] some = refl
last_open (g ∷ []) some = ap last (append-nil g)
last_open (g ∷ h ∷ hs) some =
    last_behind g (concat (h ∷ hs)) (some_behind h (concat hs) some.1.0) ∙ last_open (h ∷ hs) some.1

open_accepted : (gs : List (List Row)) → AllByRecursion (IsAccepted same_group) gs → IsAccepted same_group (open_group gs)
open_accepted [] all = tt
open_accepted (g ∷ []) all = all.0
open_accepted (g ∷ h ∷ hs) all = open_accepted (h ∷ hs) all.1

-- whether a group begins with these rows, where this is the summary of the group that is open
abbrev pub starts : Option Summary → List Row → Bool
starts None rows = true
starts (Some s) [] = true
starts (Some s) (row ∷ rows) = not (same_fields s.group row.group)

by_last : (x : Row) (xs rows : List Row) → IsAccepted same_group (x ∷ xs) → (o : Option Row) → last (x ∷ xs) ≡ o
    → starts (Some (summary (x ∷ xs))) rows ≡ begins_at same_group (across o rows)
by_last x xs rows a None e = absurd (last_some x xs e)
by_last x xs [] a (Some z) e = refl
by_last x xs (row ∷ rows) a (Some z) e = ap not (fields_equiv.congr x.group z.group row.group (ends_with x xs z a e))

by_group : (g rows : List Row) → IsAccepted same_group g → starts (summary_if g) rows ≡ begins_at same_group (across (last g) rows)
by_group [] [] a = refl
by_group [] (row ∷ rows) a = refl
by_group (x ∷ xs) rows a = by_last x xs rows a (last (x ∷ xs)) refl

pub starts_is : (came rows : List Row) → IsSplit same_group came (split same_group came)
    → starts (summary_if (open_group (split same_group came))) rows ≡ begins_at same_group (across (last came) rows)
starts_is came rows s =
    let e : last came ≡ last (open_group (split same_group came)) = ap last (sym s.covers) ∙ last_open _ s.nonempty in
    rw e (by_group (open_group (split same_group came)) rows (open_accepted _ s.accepted))

-- the summaries of all groups
pub made_of : (gs : List (List Row)) → AllByRecursion (λ g. g ≢ []) gs → flat_map (λ g. option_to_list (summary_if g)) gs ≡ map summary gs
made_of [] some = refl
made_of ([] ∷ gs) some = absurd (some.0 refl)
made_of ((x ∷ xs) ∷ gs) some = ap (λ l. summary (x ∷ xs) ∷ l) (made_of gs some.1)

-- whether a group begins, where the open one and the first row are known
pub begins_some : (came rows : List Row) (current : Option Summary) (s : Summary) (row : Row)
    → IsSplit same_group came (split same_group came)
    → current ≡ Some s → current ≡ summary_if (open_group (split same_group came)) → slice_get rows 0 ≡ Some row
    → not (same_fields s.group row.group) ≡ begins_at same_group (across (last came) rows)
begins_some came [] current s row split is so_far first = cc
begins_some came (x ∷ rows) current s row split is so_far first =
    let same : x ≡ row = cc in
    rw (← same) (subst (λ o. starts o (x ∷ rows) ≡ begins_at same_group (across (last came) (x ∷ rows))) (sym so_far ∙ is)
    (starts_is came (x ∷ rows) split))

pub begins_none : (came rows : List Row) (current : Option Summary) → IsSplit same_group came (split same_group came)
    → current ≡ None → current ≡ summary_if (open_group (split same_group came)) → true ≡ begins_at same_group (across (last came) rows)
begins_none came rows current split is so_far =
    subst (λ o. starts o rows ≡ begins_at same_group (across (last came) rows)) (sym so_far ∙ is) (starts_is came rows split)

-- what a part more makes of the summaries that wait to be written, behind those that are
pub part_more : (written closed closed' : List Summary) (current current' : Option Summary) (m : List Summary × Option Summary)
    (part : Bool × List Row) → (written ++ closed, current) ≡ m
    → (written ++ closed', current') ≡ take_part summary_if longer option_to_list (written ++ closed, current) part
    → (written ++ closed', current') ≡ take_part summary_if longer option_to_list m part
part_more written closed closed' current current' m part is step =
    subst (λ (x : List Summary × Option Summary). (written ++ closed', current') ≡ take_part summary_if longer option_to_list x part) is
    step

pub adds : (group part : List Row) → group ≢ [] → part ≢ [] → longer (summary_if group) part ≡ summary_if (group ++ part)
adds [] part some more = absurd (some refl)
adds (x ∷ xs) part some more = ap (λ (s : Summary). Some s) (summary_longer (x ∷ xs) part some)
