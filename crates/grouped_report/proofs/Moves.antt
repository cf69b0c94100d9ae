-- Summaries that move from iterators behind others.
use Rattle.std.proofs.Common.{◌≡◌, ◌≢◌, ℕ, List, [], ◌∷◌, ◌++◌, length, take, drop, map, flat_map, refl, sym, ap, ◌∙◌, arith, append_assoc}
use Rattle.std.proofs.Common.{suc, zero, append-nil}
use Rattle.std.specs.List.{AllByRecursion}
use Rattle.std.specs.Vec.Iter.{into_iter_items, into_iter_len}
use Rattle.std.specs.declared.vec.IntoIter.{IntoIter}
use Rattle.slice_merge_join.specs.Merge.{Part, lefts, rights}
use Rattle.grouped_report.specs.Groups.{Summary}
use Rattle.grouped_report.specs.Sums.{IsOneOfEach, combine, counts_of, together}
use Rattle.grouped_report.proofs.Witness.{Parts, sums_of}

-- an iterator that has none left
pub none_left : {X Z : Type 0} (it : IntoIter X Z) → into_iter_len it ≡ 0 → into_iter_items it ≡ []
none_left it none = empty (into_iter_items it) (sym it.rest.ok.0 ∙ none)
  where
    empty : {X : Type 0} (xs : List X) → length xs ≡ 0 → xs ≡ []
    empty [] e = refl
    empty (x ∷ xs) e = absurd (omega (arith, e))

-- one more of a list has moved, or none was left
pub one_more : {X : Type 0} (i : ℕ) (xs : List X) (x : X) (rest : List X) → drop i xs ≡ x ∷ rest
    → (take (suc i) xs ≡ take i xs ++ x ∷ []) × (drop (suc i) xs ≡ rest)
one_more zero [] x rest e = let no : ⊥ = cc in absurd no
one_more zero (y ∷ ys) x rest e = (cc, cc)
one_more (suc i) [] x rest e = let no : ⊥ = cc in absurd no
one_more (suc i) (y ∷ ys) x rest e = let more = one_more i ys x rest e in (ap (λ zs. y ∷ zs) more.0, more.1)

pub no_more : {X : Type 0} (i : ℕ) (xs : List X) → drop i xs ≡ [] → (take (suc i) xs ≡ take i xs) × (drop (suc i) xs ≡ [])
no_more zero [] e = (refl, refl)
no_more zero (y ∷ ys) e = let no : ⊥ = cc in absurd no
no_more (suc i) [] e = (refl, refl)
no_more (suc i) (y ∷ ys) e = let more = no_more i ys e in (ap (λ zs. y ∷ zs) more.0, more.1)

-- a part of both sides has moved
pub both_moved : (counts : ℕ × ℕ) (sums sums' L L' R R' : List Summary) → counts.0 ≢ 0 → counts.1 ≢ 0
    → ((a b : Summary) (ls rs : List Summary) → L ≡ a ∷ ls → R ≡ b ∷ rs
    → (sums' ≡ sums ++ combine a b ∷ []) × (L' ≡ ls) × (R' ≡ rs))
    → (p : Part Summary Summary) (ls rs : List Summary) → counts ≡ counts_of p → IsOneOfEach (lefts p) (rights p) → L ≡ lefts p ++ ls
    → R ≡ rights p ++ rs → (sums' ≡ sums ++ together (lefts p) (rights p)) × (L' ≡ ls) × (R' ≡ rs)
both_moved counts sums sums' L L' R R' some_left some_right moved p ls rs counted =
    by_sides (lefts p) (rights p) (λ e. some_left (ap (λ (q : ℕ × ℕ). q.0) counted ∙ e))
    (λ e. some_right (ap (λ (q : ℕ × ℕ). q.1) counted ∙ e))
  where
    by_sides : (as' bs : List Summary) → length as' ≢ 0 → length bs ≢ 0 → IsOneOfEach as' bs → L ≡ as' ++ ls → R ≡ bs ++ rs
        → (sums' ≡ sums ++ together as' bs) × (L' ≡ ls) × (R' ≡ rs)
    by_sides [] bs l r one is_left is_right = absurd (l refl)
    by_sides (a ∷ as') [] l r one is_left is_right = absurd (r refl)
    by_sides (a ∷ as') (b ∷ bs) l r one is_left is_right =
        moved a b ls rs (is_left ∙ ap (λ zs. a ∷ (zs ++ ls)) one.0) (is_right ∙ ap (λ zs. b ∷ (zs ++ rs)) one.1)

-- of these parts, some have moved behind the others, and the rest is still to come
pub record AreMoved (ps : Parts) (sums lefts_left rights_left : List Summary) (counts : List (ℕ × ℕ)) : Type 0 where
  pub rest : Parts
  pub moved : sums_of ps ≡ sums ++ sums_of rest
  pub ones : AllByRecursion (λ p. IsOneOfEach (lefts p) (rights p)) rest
  pub from_left : lefts_left ≡ flat_map lefts rest
  pub from_right : rights_left ≡ flat_map rights rest
  pub counted : counts ≡ map counts_of rest

pub part_moved : (ps : Parts) (sums sums' L L' R R' : List Summary) (count : ℕ × ℕ) (counts : List (ℕ × ℕ))
    → AreMoved ps sums L R (count ∷ counts)
    → ((p : Part Summary Summary) (ls rs : List Summary) → count ≡ counts_of p → IsOneOfEach (lefts p) (rights p)
    → L ≡ lefts p ++ ls → R ≡ rights p ++ rs → (sums' ≡ sums ++ together (lefts p) (rights p)) × (L' ≡ ls) × (R' ≡ rs))
    → AreMoved ps sums' L' R' counts
part_moved ps sums sums' L L' R R' count counts moving step =
    by_rest moving.rest moving.moved moving.ones moving.from_left moving.from_right moving.counted
  where
    by_rest : (rest : Parts) → sums_of ps ≡ sums ++ sums_of rest → AllByRecursion (λ p. IsOneOfEach (lefts p) (rights p)) rest
        → L ≡ flat_map lefts rest → R ≡ flat_map rights rest → count ∷ counts ≡ map counts_of rest → AreMoved ps sums' L' R' counts
    by_rest [] moved ones l r counted = let no : ⊥ = cc in absurd no
    by_rest (p ∷ qs) moved ones l r counted =
        let first : count ≡ counts_of p = cc in
        let (put, l', r') = step p (flat_map lefts qs) (flat_map rights qs) first ones.0 l r in
        record {
          rest = qs;
          moved = moved ∙ sym (append_assoc sums (together (lefts p) (rights p)) (sums_of qs)) ∙ ap (λ zs. zs ++ sums_of qs) (sym put);
          ones = ones.1;
          from_left = l';
          from_right = r';
          counted = cc;
        }

pub all_moved : (ps : Parts) (sums L R : List Summary) → AreMoved ps sums L R [] → sums ≡ sums_of ps
all_moved ps sums L R moving = by_rest moving.rest moving.moved moving.counted
  where
    by_rest : (rest : Parts) → sums_of ps ≡ sums ++ sums_of rest → [] ≡ map counts_of rest → sums ≡ sums_of ps
    by_rest [] moved counted = sym (moved ∙ append-nil sums)
    by_rest (p ∷ qs) moved counted = let no : ⊥ = cc in absurd no
