-- The fields of rows in memory.
use Rattle.std.proofs.Common.{◌≡◌, ◌≢◌, ℕ, zero, suc, ◌+◌, ◌<◌, ◌≤◌, List, [], ◌∷◌, ◌++◌, length, take, drop, get_or, map, min}
use Rattle.std.proofs.Common.{Bor, refl, sym, ap, ◌∙◌, arith, append_assoc, length-drop, length-take}
use Rattle.std.proofs.lemmas.List.{map-append}
use Rattle.std.proofs.lemmas.Bool.Decides.{nat_tests}
use Rattle.csv.specs.Records.{field_at}
use Rattle.program_parts.specs.Records.{Record, field}
use Rattle.std.specs.Cmp.Lexicographic.{slice_cmp}
use Rattle.std.specs.Ordering.{nat_cmp}
use Rattle.std.specs.declared.cmp.Ordering.{Ordering}
use Rattle.std.specs.declared.cmp.Ordering.TheVariants.{Less, Equal, Greater}
use Rattle.program_parts.specs.Rows.{IsFront, front, key_cmp}

-- a field of a part of a list of fields
field_taken : (n i : ℕ) (fields : Record) → i < n → i < length fields → field (take n fields) i ≡ field fields i
unfolding field_at
field_taken zero i fields l m = absurd (omega arith)
field_taken (suc n) i [] l m = absurd (omega arith)
field_taken (suc n) zero (x ∷ xs) l m = refl
field_taken (suc n) (suc i) (x ∷ xs) l m = field_taken n i xs (omega (arith, l)) (omega (arith, m))

field_dropped : (at i j : ℕ) (fields : Record) → j ≡ at + i → field (drop at fields) i ≡ field fields j
unfolding field_at
field_dropped zero i j fields e = let same : i ≡ j = omega (arith, e) in ap (field fields) same
field_dropped (suc at) i zero fields e = absurd (omega (arith, e))
field_dropped (suc at) i (suc j) [] e = refl
field_dropped (suc at) i (suc j) (x ∷ xs) e = field_dropped at i j xs (omega (arith, e))

pub field_cut : (n at i : ℕ) (fields part : Record) → take n (drop at fields) ≡ part → i < length part → at + n ≤ length fields
    → field fields (at + i) ≡ field part i
field_cut n at i fields part is l inside =
    let long = length-drop at fields in
    let few = length-take n (drop at fields) in
    let many = ap (λ (l : Record). length l) is in
    let l' : i < n = omega (arith, few, many, l) in
    sym (ap (λ l. field l i) (sym is) ∙ field_taken n i (drop at fields) l' (omega (arith, long, l', inside))
    ∙ field_dropped at i (at + i) fields refl)

one_taken : (i : ℕ) (fields : Record) → i < length fields → take (i + 1) fields ≡ take i fields ++ field fields i ∷ []
unfolding field_at
one_taken i [] l = absurd (omega (arith, l))
one_taken zero (x ∷ xs) l = refl
one_taken (suc i) (x ∷ xs) l = let e : suc i + 1 ≡ suc (i + 1) = omega arith in rw e (ap (λ t. x ∷ t) (one_taken i xs (omega (arith, l))))

-- one field more of a key, or of the others
pub texts_more : (line line' : List (Bor (List ℕ))) (start fields : Record) (i : ℕ) (text : Bor (List ℕ)) → i < length fields
    → map (λ t. t.now) line ≡ start ++ take i fields → line' ≡ line ++ text ∷ [] → text.now ≡ field fields i
    → map (λ t. t.now) line' ≡ start ++ take (i + 1) fields
texts_more line line' start fields i text l so_far pushed is =
    ap (map (λ t. t.now)) pushed ∙ map-append (λ t. t.now) line (text ∷ []) ∙ ap (λ l. l ++ text.now ∷ []) so_far
    ∙ append_assoc start (take i fields) (text.now ∷ [])
    ∙ ap (λ t. start ++ t) (ap (λ t. take i fields ++ t ∷ []) is ∙ sym (one_taken i fields l))

pub all_taken : (start fields : Record) (texts : Record) (i : ℕ) → i ≡ length fields → texts ≡ start ++ take i fields
    → texts ≡ start ++ fields
all_taken start fields texts i all so_far = so_far ∙ ap (λ t. start ++ t) (ap (λ n. take n fields) all ∙ whole fields)
  where
    whole : (fields : Record) → take (length fields) fields ≡ fields
    whole [] = refl
    whole (x ∷ xs) = ap (λ t. x ∷ t) (whole xs)

-- the front of a key that begins there
pub front_is : (n key at : ℕ) (fields : Record) → key ≢ 0 → at + key ≤ length fields → n ≡ front 8 0 0 (field fields at)
    → ((i : ℕ) → get_or (field fields at) i 0 < 256) → IsFront n (take key (drop at fields))
unfolding field_at
front_is n zero at fields some inside is bytes = absurd (some refl)
front_is n (suc key) zero [] some inside is bytes = absurd (omega (arith, inside))
front_is n (suc key) zero (x ∷ xs) some inside is bytes = (is, bytes)
front_is n (suc key) (suc at) [] some inside is bytes = absurd (omega (arith, inside))
front_is n (suc key) (suc at) (x ∷ xs) some inside is bytes = front_is n (suc key) at xs some (omega (arith, inside)) is bytes

-- keys are compared field by field
pub differ : (i : ℕ) (xs ys : Record) (o : Ordering) → i < length xs → i < length ys → slice_cmp nat_cmp (field xs i) (field ys i) ≡ o
    → o ≢ Equal → key_cmp (drop i xs) (drop i ys) ≡ o
unfolding field_at
differ i [] ys o l m is other = absurd (omega (arith, l))
differ i (x ∷ xs) [] o l m is other = absurd (omega (arith, m))
differ zero (x ∷ xs) (y ∷ ys) Less l m is other = rw is refl
differ zero (x ∷ xs) (y ∷ ys) Equal l m is other = absurd (other refl)
differ zero (x ∷ xs) (y ∷ ys) Greater l m is other = rw is refl
differ (suc i) (x ∷ xs) (y ∷ ys) o l m is other = differ i xs ys o (omega (arith, l)) (omega (arith, m)) is other

pub agree : (i : ℕ) (xs ys : Record) → i < length xs → i < length ys → slice_cmp nat_cmp (field xs i) (field ys i) ≡ Equal
    → key_cmp (drop (i + 1) xs) (drop (i + 1) ys) ≡ key_cmp (drop i xs) (drop i ys)
unfolding field_at
agree i [] ys l m is = absurd (omega (arith, l))
agree i (x ∷ xs) [] l m is = absurd (omega (arith, m))
agree zero (x ∷ xs) (y ∷ ys) l m is = rw is refl
agree (suc i) (x ∷ xs) (y ∷ ys) l m is =
    let e : suc i + 1 ≡ suc (i + 1) = omega arith in rw e (agree i xs ys (omega (arith, l)) (omega (arith, m)) is)

pub ended : (i : ℕ) (xs ys : Record) → i ≡ min (length xs) (length ys) → key_cmp (drop i xs) (drop i ys) ≡ nat_cmp (length xs) (length ys)
ended zero [] [] e = refl
ended zero [] (y ∷ ys) e = grind (nat_tests, arith)
ended zero (x ∷ xs) [] e = grind (nat_tests, arith)
ended zero (x ∷ xs) (y ∷ ys) e = absurd (omega (arith, e))
ended (suc i) [] ys e = absurd (omega (arith, e))
ended (suc i) (x ∷ xs) [] e = absurd (omega (arith, e))
ended (suc i) (x ∷ xs) (y ∷ ys) e = ended i xs ys (omega (arith, e)) ∙ grind (nat_tests, arith)
