-- Columns and fields, one after another.
use Rattle.std.proofs.Common.{◌≡◌, ℕ, List, [], ◌∷◌, ◌++◌, map, length, take, Bor, ◌+◌, ◌<◌, get_or, zero, suc, Bool, true, false, filter}
use Rattle.std.proofs.Common.{refl, sym, ap, ◌∙◌, append_assoc, append-nil, arith}
use Rattle.std.proofs.lemmas.List.{map-append, take_more}
use Rattle.std.proofs.lemmas.List.Elements.{filter-append}
use Rattle.std.specs.List.{AllZip, range_with_len}
use Rattle.std.proofs.lemmas.Slice.Zip.{all_zipped_more}
use Rattle.program_parts.specs.Records.{Record}

-- one column more
pub zip_column : {B : Type 0} (R : List ℕ → B → Type 0) (columns : List (Bor (List ℕ))) (places places' : List B) (i : ℕ)
    (d : Bor (List ℕ)) (place : B) → i < length columns → AllZip R (map (λ column. column.now) (take i columns)) places
    → R (get_or columns i d).now place → places' ≡ places ++ place ∷ [] → AllZip R (map (λ column. column.now) (take (i + 1) columns)) places'
zip_column R columns places places' i d place l all one pushed =
    rw (pushed, take_more columns i d l, map-append) (all_zipped_more R (map (λ column. column.now) (take i columns)) places _ _ all one)

-- one field more
pub fields_more : {X : Type 0} (f : X → List ℕ) (start now new : Record) (partial text : List ℕ) (xs : List X) (i : ℕ) (x : X)
    → take (i + 1) xs ≡ take i xs ++ x ∷ [] → now ≡ start ++ map f (take i xs) → partial ≡ [] → text ≡ f x
    → new ≡ now ++ (partial ++ text) ∷ [] → new ≡ start ++ map f (take (i + 1) xs)
fields_more f start now new partial text xs i x next so_far none is pushed =
    (rw (so_far, none, is) at pushed ∙ append_assoc start (map f (take i xs)) (f x ∷ [])
    ∙ ap (λ l. start ++ l) (sym (map-append f (take i xs) (x ∷ [])) ∙ ap (map f) (sym next)))

-- one place more
pub one_place : (a n x : ℕ) → x ≡ a + n → range_with_len a (n + 1) ≡ range_with_len a n ++ x ∷ []
one_place a zero x is = let same : a ≡ x = omega (arith, is) in ap (λ y. y ∷ []) same
one_place a (suc n) x is =
    let e : suc n + 1 ≡ suc (n + 1) = omega arith in rw e (ap (λ l. a ∷ l) (one_place (a + 1) n x (omega (arith, is))))

-- one that passes a test, or does not
pub place_passes : (p : ℕ → Bool) (kept kept' : List ℕ) (n : ℕ) → kept ≡ filter p (range_with_len 0 n) → p n ≡ true
    → kept' ≡ kept ++ n ∷ [] → kept' ≡ filter p (range_with_len 0 (n + 1))
place_passes p kept kept' n so is more =
    more ∙ ap (λ l. l ++ n ∷ []) so ∙ sym (ap (filter p) (one_place 0 n n (omega arith)) ∙ filter-append p (range_with_len 0 n) (n ∷ [])
    ∙ ap (λ l. filter p (range_with_len 0 n) ++ l) (rw is refl))

pub place_fails : (p : ℕ → Bool) (kept : List ℕ) (n : ℕ) → kept ≡ filter p (range_with_len 0 n) → p n ≡ false
    → kept ≡ filter p (range_with_len 0 (n + 1))
place_fails p kept n so is =
    so ∙ sym (ap (filter p) (one_place 0 n n (omega arith)) ∙ filter-append p (range_with_len 0 n) (n ∷ [])
    ∙ ap (λ l. filter p (range_with_len 0 n) ++ l) (rw is refl) ∙ append-nil _)
