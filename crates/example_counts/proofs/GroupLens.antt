-- Lengths joined at a seam, where the last of the one list is known.
use Rattle.std.specs.Prelude.{Result, Ok, Err, OnOk, is_ok}
use Rattle.std.proofs.Common.{suc, ◌≡◌, ℕ, ◌+◌, ◌-◌, Bool, true, false, cond, List, [], ◌∷◌, ◌++◌, length, map, nat_eq, take, drop, refl, sym, ap, subst, ◌∙◌, arith}
use Rattle.std.proofs.lemmas.List.{take-append-drop}
use Rattle.std.specs.List.{slice_get}
use Rattle.slice_group_by.specs.Split.{split, first, last}
use Rattle.slice_group_by.specs.Seams.{are_accepted, is_accepted_across, lens_joined}

pub joined_push : (ms : List ℕ) (m n : ℕ) (ns : List ℕ) → lens_joined true (ms ++ m ∷ []) (n ∷ ns) ≡ ms ++ (m + n) ∷ ns
joined_push [] m n ns = refl
joined_push (k ∷ []) m n ns = refl
joined_push (k ∷ l ∷ ms) m n ns = ap (λ (xs : List ℕ). k ∷ xs) (joined_push (l ∷ ms) m n ns)

pub joined_apart : (ms ns : List ℕ) → lens_joined false ms ns ≡ ms ++ ns
joined_apart [] ns = refl
joined_apart (m ∷ []) [] = refl
joined_apart (m ∷ []) (n ∷ ns) = refl
joined_apart (m ∷ k ∷ ms) ns = ap (λ (xs : List ℕ). m ∷ xs) (joined_apart (k ∷ ms) ns)

pub joined_nothing : (b : Bool) (ms : List ℕ) → lens_joined b ms [] ≡ ms
joined_nothing b [] = refl
joined_nothing b (m ∷ []) = refl
joined_nothing b (m ∷ k ∷ ms) = ap (λ (xs : List ℕ). m ∷ xs) (joined_nothing b (k ∷ ms))

pub joined_with_none : (b : Bool) (ms ns : List ℕ) → length ns ≡ 0 → ms ≡ lens_joined b ms ns
joined_with_none b ms [] e = sym (joined_nothing b ms)
joined_with_none b ms (n ∷ ns) e = absurd (omega arith)

-- where a call succeeds the list has grown as it says
pub grown_if_ok : {E : Type 0} (r : Result (Unit {0}) E) (new old more wanted : List ℕ) → new ≡ cond (is_ok r) (old ++ more) old
    → old ++ more ≡ wanted → OnOk r (new ≡ wanted)
grown_if_ok (Ok u) new old more wanted e f = e ∙ f
grown_if_ok (Err x) new old more wanted e f = tt

-- the elements at the seam, as slices give them
last_is : (xs : List ℕ) → slice_get xs (length xs - 1) ≡ last xs
last_is [] = refl
last_is (x ∷ []) = refl
last_is (x ∷ y ∷ ys) =
    subst (λ n. slice_get (x ∷ y ∷ ys) n ≡ last (y ∷ ys)) {x = suc (length (y ∷ ys) - 1)} {y = length (x ∷ y ∷ ys) - 1} (omega arith)
    (last_is (y ∷ ys))

first_is : (xs : List ℕ) → slice_get xs 0 ≡ first xs
first_is [] = refl
first_is (x ∷ xs) = refl

pub across_slices : (left right : List ℕ)
    → are_accepted nat_eq (slice_get left (length left - 1)) (slice_get right 0) ≡ is_accepted_across nat_eq left right
across_slices left right = λ i. are_accepted nat_eq (last_is left i) (first_is right i)

-- the lengths of the groups of a list that is cut in two
pub lens_at : (xs left right : List ℕ) (m : ℕ) (b : Bool) → left ≡ take m xs → right ≡ drop m xs
    → map length (split nat_eq (left ++ right))
    ≡ lens_joined (is_accepted_across nat_eq left right) (map length (split nat_eq left)) (map length (split nat_eq right))
    → b ≡ are_accepted nat_eq (slice_get left (length left - 1)) (slice_get right 0)
    → lens_joined b (map length (split nat_eq left)) (map length (split nat_eq right)) ≡ map length (split nat_eq xs)
lens_at xs left right m b e f both is =
    let whole : left ++ right ≡ xs = (λ i. e i ++ f i) ∙ take-append-drop m xs in
    let across : b ≡ is_accepted_across nat_eq left right = is ∙ across_slices left right in
    ap (λ t. lens_joined t (map length (split nat_eq left)) (map length (split nat_eq right))) across ∙ sym both
    ∙ ap (λ l. map length (split nat_eq l)) whole
