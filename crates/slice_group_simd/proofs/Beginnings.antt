-- How many groups of a class begin in some bytes: by masks, and by the split.
use Rattle.std.proofs.Common.{◌≡◌, ℕ, zero, suc, ◌+◌, ◌-◌, ◌*◌, ◌^◌, ◌<◌, ◌≤◌, cond, not, ◌&&◌, Bool, true, false, List, []}
use Rattle.std.proofs.Common.{◌∷◌, ◌++◌, length, map, take, drop, drop-cons, get_or, bit_and, refl, sym, ap, ap₂, ◌∙◌, arith}
use Rattle.std.proofs.Common.{Option, None, Some}
use Rattle.std.specs.Prelude.{count_by}
use Rattle.std.specs.Int.RustNames.{count_ones}
use Rattle.std.specs.Simd.Lanes.{zip2, chunk, mask_l}
use Rattle.std.proofs.lemmas.List.Sums.{sum_by-cons}
use Rattle.std.proofs.lemmas.Nat.{and_block, and_le_l, and_le_r}
use Rattle.std.proofs.lemmas.Simd.{ones-mask_l_cons}
use Rattle.std.proofs.Math.Seq.{take-add, take-length}
use Rattle.sgb_split.specs.Split.{split, put_before}
use Rattle.slice_group_simd.specs.AsciiBytes.{ascii_class, is_class}
use Rattle.sgb_numbers.specs.Numbers.{boundaries}
use Rattle.slice_group_simd.specs.declared.ascii_classes.AsciiClass.{AsciiClass}
use Rattle.slice_group_simd.specs.declared.ascii_classes.AsciiClass.TheVariants.{Letter, Digit, Space, Other}
use Rattle.slice_group_simd.specs.Counted.{same_class, class_of_group, begun, class_count, class_after}
use Rattle.slice_group_simd.specs.Starts.{begins, starts}
use Rattle.sgb_numbers.proofs.Asked.{boundaries-drop, boundaries-take}

-- the bits that two masks share
both : (b c m n : ℕ) → b < 2 → c < 2 → bit_and (b + 2 * m) (c + 2 * n) ≡ bit_and b c + 2 * bit_and m n
both b c m n e f =
    let left : b + 2 * m ≡ m * 2 ^ 1 + b = omega arith in
    let right : c + 2 * n ≡ n * 2 ^ 1 + c = omega arith in
    ap₂ bit_and left right
    ∙ and_block 1 m n b c (omega (arith, e)) (omega (arith, f)) ∙ omega arith

and_cons : (b c : Bool) (m n : ℕ) → bit_and (cond b 1 0 + 2 * m) (cond c 1 0 + 2 * n) ≡ cond (b && c) 1 0 + 2 * bit_and m n
and_cons true true m n = both 1 1 m n (omega arith) (omega arith)
and_cons true false m n = both 1 0 m n (omega arith) (omega arith)
and_cons false true m n = both 0 1 m n (omega arith) (omega arith)
and_cons false false m n = both 0 0 m n (omega arith) (omega arith)

mask_and : (bs cs : List Bool) → bit_and (mask_l bs) (mask_l cs) ≡ mask_l (zip2 (λ b c. b && c) bs cs)
mask_and [] cs = omega (arith, and_le_l 0 (mask_l cs))
mask_and (b ∷ bs) [] = omega (arith, and_le_r (mask_l (b ∷ bs)) 0)
mask_and (b ∷ bs) (c ∷ cs) = and_cons b c (mask_l bs) (mask_l cs) ∙ ap (λ (n : ℕ). cond (b && c) 1 0 + 2 * n) (mask_and bs cs)

one_pair : (x y : Bool) → cond (not x && not y) 1 0 + cond x 0 (cond y 1 0) ≡ cond (not x) 1 0
one_pair true true = refl
one_pair true false = refl
one_pair false true = refl
one_pair false false = refl

-- the bytes zs, after the byte p
module _ (byte : ℕ) where
  abbrev others : ℕ → Bool
  others b = not (same_class b byte)

  zipped : (p : ℕ) (zs : List ℕ) → count_ones (mask_l (zip2 (λ b c. b && c) (boundaries same_class (p ∷ zs)) (map others zs)))
      + starts (ascii_class byte) (Some (ascii_class p)) zs ≡ count_ones (mask_l (boundaries same_class (p ∷ zs)))
  zipped p [] = omega arith
  zipped p (z ∷ zs) =
      let cuts = boundaries same_class (z ∷ zs) in
      let left = ones-mask_l_cons (not (same_class p z) && others z) (zip2 (λ b c. b && c) cuts (map others zs)) in
      let right = ones-mask_l_cons (not (same_class p z)) cuts in
      omega (arith, left, right, zipped z zs, one_pair (same_class p z) (same_class z byte))

  pub counted : (p : ℕ) (zs : List ℕ) (m n : ℕ) → m ≡ mask_l (boundaries same_class (p ∷ zs)) → n ≡ mask_l (map others zs)
      → count_ones (bit_and m n) + starts (ascii_class byte) (Some (ascii_class p)) zs ≡ count_ones m
  counted p zs m n e f = rw (e, f, mask_and (boundaries same_class (p ∷ zs)) (map others zs)) (zipped p zs)

pub boundaries_from : (xs : List ℕ) (at n : ℕ) → 0 < at → at ≤ length xs
    → chunk (at - 1) n (boundaries same_class xs) ≡ boundaries same_class (get_or xs (at - 1) 0 ∷ chunk at n xs)
boundaries_from xs at n some l =
    ap (take n) (sym (boundaries-drop same_class (at - 1) xs)) ∙ sym (boundaries-take same_class n (drop (at - 1) xs))
    ∙ ap (λ ys. boundaries same_class (take (suc n) ys)) (drop-cons xs (at - 1) 0 (omega (arith, some, l)))
    ∙ ap (λ (i : ℕ). boundaries same_class (get_or xs (at - 1) 0 ∷ chunk i n xs)) {x = suc (at - 1)} {y = at} (omega (arith, some))

-- along the bytes

few_begin : (x y : Bool) → cond x 0 (cond y 1 0) ≤ 1
few_begin true y = omega arith
few_begin false true = omega arith
few_begin false false = omega arith

begins_few : (k : AsciiClass) (before : Option AsciiClass) (c : AsciiClass) → begins k before c ≤ 1
begins_few k None c = few_begin false (is_class c k)
begins_few k (Some p) c = few_begin (is_class p c) (is_class c k)

pub starts_few : (k : AsciiClass) (before : Option AsciiClass) (xs : List ℕ) → starts k before xs ≤ length xs
starts_few k before [] = omega arith
starts_few k before (x ∷ xs) = omega (arith, begins_few k before (ascii_class x), starts_few k (Some (ascii_class x)) xs)

pub starts-append : (k : AsciiClass) (before : Option AsciiClass) (xs ys : List ℕ)
    → starts k before (xs ++ ys) ≡ starts k before xs + starts k (class_after before xs) ys
starts-append k before [] ys = omega arith
starts-append k before (x ∷ xs) ys = omega (arith, starts-append k (Some (ascii_class x)) xs ys)

class_after-take : (before : Option AsciiClass) (xs : List ℕ) (n : ℕ) → n < length xs
    → class_after before (take (suc n) xs) ≡ Some (ascii_class (get_or xs n 0))
class_after-take before [] n l = absurd (omega arith)
class_after-take before (x ∷ xs) zero l = refl
class_after-take before (x ∷ xs) (suc n) l = class_after-take (Some (ascii_class x)) xs n (omega arith)

pub class_after-last : (before : Option AsciiClass) (xs : List ℕ) → 0 < length xs
    → class_after before xs ≡ Some (ascii_class (get_or xs (length xs - 1) 0))
class_after-last before xs l =
    ap (class_after before) (sym (take-length xs) ∙ ap (λ (n : ℕ). take n xs) {x = length xs} {y = suc (length xs - 1)} (omega (arith, l)))
    ∙ class_after-take before xs (length xs - 1) (omega (arith, l))

-- the bytes before the place at, and n more
module _ (k : AsciiClass) (before : Option AsciiClass) (xs : List ℕ) where
  pub starts_more : (at n : ℕ) → 0 < at → at ≤ length xs
      → starts k before (take (at + n) xs)
      ≡ starts k before (take at xs) + starts k (Some (ascii_class (get_or xs (at - 1) 0))) (chunk at n xs)
  starts_more at n some l =
      ap (starts k before) (take-add at n xs) ∙ starts-append k before (take at xs) (chunk at n xs)
      ∙ ap (λ b. starts k before (take at xs) + starts k b (chunk at n xs))
      (ap (λ (i : ℕ). class_after before (take i xs)) {x = at} {y = suc (at - 1)} (omega (arith, some))
      ∙ class_after-take before xs (at - 1) (omega (arith, some, l)))

  pub starts_one_more : (at : ℕ) → 0 < at → at < length xs
      → starts k before (take (at + 1) xs)
      ≡ starts k before (take at xs) + begins k (Some (ascii_class (get_or xs (at - 1) 0))) (ascii_class (get_or xs at 0))
  starts_one_more at some l =
      starts_more at 1 some (omega (arith, l))
      ∙ ap (λ ys. starts k before (take at xs) + starts k (Some (ascii_class (get_or xs (at - 1) 0))) (take 1 ys)) (drop-cons xs at 0 l)
      ∙ omega arith

-- in the split

is_class_true : (c d : AsciiClass) → is_class c d ≡ true → c ≡ d
is_class_true Letter Letter e = refl
is_class_true Digit Digit e = refl
is_class_true Space Space e = refl
is_class_true Other Other e = refl
is_class_true c d e = cc

is_class_same : (c : AsciiClass) → is_class c c ≡ true
is_class_same Letter = refl
is_class_same Digit = refl
is_class_same Space = refl
is_class_same Other = refl

-- the first group begins with the first byte
record Begins (x : ℕ) (ps : List (List ℕ)) : Type 0 where
  rest : List ℕ
  more : List (List ℕ)
  is : ps ≡ (x ∷ rest) ∷ more

begins_before : (b : Bool) (x y : ℕ) (ps : List (List ℕ)) → Begins y ps → Begins x (put_before same_class b x ps)
begins_before true x y ps h = record { rest = y ∷ h.rest; more = h.more; is = rw h.is refl }
begins_before false x y ps h = record { rest = []; more = ps; is = refl }

first_group : (x : ℕ) (xs : List ℕ) → Begins x (split same_class (x ∷ xs))
first_group x [] = record { rest = []; more = []; is = refl }
first_group x (y ∷ ys) = begins_before (same_class x y) x y (split same_class (y ∷ ys)) (first_group y ys)

-- how many of the groups are of the class
held : AsciiClass → List (List ℕ) → ℕ
held k ps = count_by (λ g. is_class (class_of_group g) k) ps

held-cons : (k : AsciiClass) (g : List ℕ) (gs : List (List ℕ)) → held k (g ∷ gs) ≡ begins k None (class_of_group g) + held k gs
unfolding held
held-cons k g gs = sum_by-cons (λ (g : List ℕ). cond (is_class (class_of_group g) k) 1 0) g gs

held-nil : (k : AsciiClass) → held k [] ≡ 0
unfolding held
held-nil k = refl

-- a byte before groups begins one where it is refused, and else goes before the first of them
held-before : (k : AsciiClass) (b : Bool) (x y : ℕ) (ps : List (List ℕ)) → same_class x y ≡ b → Begins y ps
    → held k (put_before same_class b x ps) ≡ cond b 0 (begins k None (ascii_class x)) + held k ps
held-before k true x y ps e h =
    let longer : held k (put_before same_class true x ps) ≡ begins k None (ascii_class x) + held k h.more =
    ap (λ l. held k (put_before same_class true x l)) h.is ∙ held-cons k (x ∷ y ∷ h.rest) h.more in
    let shorter : held k ps ≡ begins k None (ascii_class y) + held k h.more = ap (held k) h.is ∙ held-cons k (y ∷ h.rest) h.more in
    let same : begins k None (ascii_class x) ≡ begins k None (ascii_class y) =
    ap (begins k None) (is_class_true (ascii_class x) (ascii_class y) e) in
    omega (arith, longer, shorter, same)
held-before k false x y ps e h = held-cons k (x ∷ []) ps

starts-before : (k : AsciiClass) (b : Bool) (x y : ℕ) (ys : List ℕ) → same_class x y ≡ b
    → starts k None (x ∷ y ∷ ys) ≡ cond b 0 (begins k None (ascii_class x)) + starts k None (y ∷ ys)
starts-before k true x y ys e =
    let same = is_class_true (ascii_class x) (ascii_class y) e in
    rw (same, is_class_same (ascii_class y)) (omega arith)
starts-before k false x y ys e = rw e refl

held-starts : (k : AsciiClass) (xs : List ℕ) → held k (split same_class xs) ≡ starts k None xs
held-starts k [] = held-nil k
held-starts k (x ∷ []) = omega (arith, held-cons k (x ∷ []) [], held-nil k)
held-starts k (x ∷ y ∷ ys) =
    let rest = held-starts k (y ∷ ys) in
    held-before k (same_class x y) x y (split same_class (y ∷ ys)) refl (first_group y ys)
    ∙ ap (λ n. cond (same_class x y) 0 (begins k None (ascii_class x)) + n) rest ∙ sym (starts-before k (same_class x y) x y ys refl)

-- the first group goes on, or begins
held-first : (k p : AsciiClass) (x : ℕ) (xs : List ℕ) (b : Bool) → is_class p (ascii_class x) ≡ b
    → (h : Begins x (split same_class (x ∷ xs)))
    → held k (cond b h.more ((x ∷ h.rest) ∷ h.more)) ≡ starts k (Some p) (x ∷ xs)
held-first k p x xs true e h =
    let all : held k ((x ∷ h.rest) ∷ h.more) ≡ starts k None (x ∷ xs) = ap (held k) (sym h.is) ∙ held-starts k (x ∷ xs) in
    let none : begins k (Some p) (ascii_class x) ≡ 0 = ap (λ b. cond b 0 (begins k None (ascii_class x))) e in
    omega (arith, all, held-cons k (x ∷ h.rest) h.more, none)
held-first k p x xs false e h =
    let all : held k ((x ∷ h.rest) ∷ h.more) ≡ starts k None (x ∷ xs) = ap (held k) (sym h.is) ∙ held-starts k (x ∷ xs) in
    let new : begins k (Some p) (ascii_class x) ≡ begins k None (ascii_class x) = ap (λ b. cond b 0 (begins k None (ascii_class x))) e in
    omega (arith, all, new)

pub count_is_starts : (k : AsciiClass) (before : Option AsciiClass) (xs : List ℕ) → class_count k before xs ≡ starts k before xs
unfolding held
count_is_starts k None xs = held-starts k xs
count_is_starts k (Some p) [] = refl
count_is_starts k (Some p) (x ∷ xs) =
    let h = first_group x xs in
    ap (λ gs. held k (begun (Some p) gs)) h.is ∙ held-first k p x xs (is_class p (ascii_class x)) refl h
