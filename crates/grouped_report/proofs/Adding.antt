-- Amounts that are added, column for column and row by row.
use Rattle.std.proofs.Common.{◌≡◌, ◌≢◌, ℕ, ◌+◌, ◌<◌, ◌≤◌, List, [], ◌∷◌, ◌++◌, length, take, get_or, set, refl, sym, ap, ◌∙◌, arith, suc}
use Rattle.std.proofs.Common.{zero, Option, None, Some, add-one}
use Rattle.std.specs.Prelude.{ℤ}
use Rattle.std.specs.List.{fold}
use Rattle.std.proofs.Math.IntN.{+ℤ_assoc}
use Rattle.std.proofs.lemmas.List.{length-append, length-take, take_more}
use Rattle.std.proofs.lemmas.List.Sums.{fold-append}
use Rattle.grouped_report.specs.Groups.{Row, Summary, add, plus, summary, with_rows}
use Rattle.grouped_report.specs.Sums.{combine}

abbrev pub Amounts : Type 0
Amounts = List (Option ℤ)

abbrev pub add_row : Amounts → Row → Amounts
add_row sums row = add sums row.amounts

plus_assoc : (a b c : Option ℤ) → plus (plus a b) c ≡ plus a (plus b c)
plus_assoc None b c = refl
plus_assoc (Some x) None c = refl
plus_assoc (Some x) (Some y) None = refl
plus_assoc (Some x) (Some y) (Some z) = ap (λ (n : ℤ). Some n) (+ℤ_assoc x y z)

add_assoc : (a b c : Amounts) → add (add a b) c ≡ add a (add b c)
add_assoc [] b c = refl
add_assoc (x ∷ xs) [] c = refl
add_assoc (x ∷ xs) (y ∷ ys) [] = refl
add_assoc (x ∷ xs) (y ∷ ys) (z ∷ zs) = (λ i. plus_assoc x y z i ∷ add_assoc xs ys zs i)

pub add_none : (xs : Amounts) → add xs [] ≡ xs
add_none [] = refl
add_none (x ∷ xs) = refl

-- one column more, which both have, and one that the sums do not have yet
pub add_more : (xs ys : Amounts) (i : ℕ) (d e : Option ℤ) → i < length (add xs (take i ys)) → i < length ys
    → set (add xs (take i ys)) i (plus (get_or (add xs (take i ys)) i d) (get_or ys i e)) ≡ add xs (take (suc i) ys)
add_more [] ys i d e l m = absurd (omega (arith, l, length-take i ys))
add_more (x ∷ xs) [] i d e l m = absurd (omega (arith, m))
add_more (x ∷ xs) (y ∷ ys) zero d e l m = ap (λ zs. plus x y ∷ zs) (sym (add_none xs))
add_more (x ∷ xs) (y ∷ ys) (suc i) d e l m = ap (λ zs. plus x y ∷ zs) (add_more xs ys i d e (omega (arith, l)) (omega (arith, m)))

pub add_last : (xs ys : Amounts) (i : ℕ) (e : Option ℤ) → length (add xs (take i ys)) ≤ i → i < length ys
    → add xs (take i ys) ++ get_or ys i e ∷ [] ≡ add xs (take (suc i) ys)
add_last [] ys i e l m = sym (take_more ys i e m) ∙ ap (λ (k : ℕ). take k ys) (add-one i)
add_last (x ∷ xs) [] i e l m = absurd (omega (arith, m))
add_last (x ∷ xs) (y ∷ ys) zero e l m = absurd (omega (arith, l))
add_last (x ∷ xs) (y ∷ ys) (suc i) e l m = ap (λ zs. plus x y ∷ zs) (add_last xs ys i e (omega (arith, l)) (omega (arith, m)))

-- a step over a column
pub added_both : (xs ys now new : Amounts) (i : ℕ) (a s : Option ℤ) → now ≡ add xs (take i ys) → i < length now → i < length ys
    → a ≡ get_or now i a → s ≡ plus a (get_or ys i None) → new ≡ set now i s → new ≡ add xs (take (i + 1) ys)
added_both xs ys now new i a s is l m a_is s_is new_is =
    new_is ∙ ap (set now i) (s_is ∙ ap (λ b. plus b (get_or ys i None)) a_is)
    ∙ rw (is, add-one i) (add_more xs ys i a None (rw is at l) m)

pub added_one : (xs ys now new : Amounts) (i : ℕ) → now ≡ add xs (take i ys) → length now ≤ i → i < length ys
    → new ≡ now ++ get_or ys i None ∷ [] → new ≡ add xs (take (i + 1) ys)
added_one xs ys now new i is l m new_is = new_is ∙ rw (is, add-one i) (add_last xs ys i None (rw is at l) m)

fold_add : (a b : Amounts) (rows : List Row) → fold add_row (add a b) rows ≡ add a (fold add_row b rows)
fold_add a b [] = refl
fold_add a b (row ∷ rows) = ap (λ (s : Amounts). fold add_row s rows) (add_assoc a b row.amounts) ∙ fold_add a (add b row.amounts) rows

-- the summary of a row, and rows more
pub summary_more : (first : Row) (others : List Row) → with_rows (summary (first ∷ [])) others ≡ summary (first ∷ others)
summary_more first others =
    let count : 1 + length others ≡ length (first ∷ others) = omega arith in
    (λ i. record { group = first.group; count = count i; sums = fold add_row first.amounts others })

pub with_both : (s : Summary) (xs ys : List Row) → with_rows (with_rows s xs) ys ≡ with_rows s (xs ++ ys)
with_both s xs ys =
    let count : s.count + length xs + length ys ≡ s.count + length (xs ++ ys) = omega (arith, length-append xs ys) in
    let sums = sym (fold-append add_row s.sums xs ys) in
    (λ i. record { group = s.group; count = count i; sums = sums i })

pub summary_longer : (rows more : List Row) → rows ≢ [] → with_rows (summary rows) more ≡ summary (rows ++ more)
summary_longer [] more some = absurd (some refl)
summary_longer (x ∷ xs) more some =
    ap (λ (s : Summary). with_rows s more) (sym (summary_more x xs)) ∙ with_both (summary (x ∷ [])) xs more ∙ summary_more x (xs ++ more)

-- that of the rows of two summaries
pub summary_both : (g h : List Row) → g ≢ [] → h ≢ [] → combine (summary g) (summary h) ≡ summary (g ++ h)
summary_both [] h some other = absurd (some refl)
summary_both (x ∷ xs) [] some other = absurd (other refl)
summary_both (x ∷ xs) (y ∷ ys) some other =
    let count : length (x ∷ xs) + length (y ∷ ys) ≡ length (x ∷ (xs ++ (y ∷ ys))) = omega (arith, length-append xs (y ∷ ys)) in
    let sums : add (fold add_row x.amounts xs) (fold add_row y.amounts ys) ≡ fold add_row x.amounts (xs ++ (y ∷ ys)) =
    sym (fold_add (fold add_row x.amounts xs) y.amounts ys) ∙ sym (fold-append add_row x.amounts xs (y ∷ ys)) in
    (λ i. record { group = x.group; count = count i; sums = sums i })
