-- The classes of ASCII: their table, and the codes that vectors hold of them.
use Rattle.std.proofs.Common.{◌≡◌, ℕ, zero, suc, ◌+◌, ◌*◌, ◌/◌, ◌<◌, ◌≤◌, ◌||◌, cond, not, eqb, Bool, true, List, [], ◌∷◌}
use Rattle.std.proofs.Common.{length, map, get_or, refl, sym, ap, ap₂, ◌∙◌, subst, arith, w8, Fits}
use Rattle.std.proofs.lemmas.Simd.{zip2_splat, map-map, swz_l, SwzOk, SwzOk-from_Each1}
use Rattle.std.proofs.lemmas.List.{length-map}
use Rattle.std.specs.Prelude.{replicate}
use Rattle.std.specs.Ordering.{on}
use Rattle.std.specs.Simd.Lanes.{Each1, zip2, mask_l}
use lib.Dec.{T, ltb}
use mir.Val.{zeroes}
use Rattle.slice_group_simd.specs.declared.ascii_classes.TheConstants.{CLASSES}
use Rattle.slice_group_simd.specs.declared.ascii_classes.AsciiClass.{AsciiClass}
use Rattle.slice_group_simd.specs.declared.ascii_classes.AsciiClass.TheVariants.{Letter, Digit, Space, Other}
use Rattle.slice_group_simd.specs.AsciiBytes.{ascii_class, is_class, code}
use Rattle.sgb_numbers.proofs.Vectors.{unequal, lanes_mask, mask_of}

-- the values of a function at n numbers, the first of which is given
abbrev pub values : {X : Type 0} → (ℕ → X) → ℕ → ℕ → List X
values f from zero = []
values f from (suc n) = f from ∷ values f (from + 1) n

pub values_at : {X : Type 0} (f : ℕ → X) (from n i : ℕ) (d : X) → i < n → get_or (values f from n) i d ≡ f (from + i)
values_at f from zero i d l = absurd (omega arith)
values_at f from (suc n) zero d l = ap f {x = from} {y = from + 0} (omega arith)
values_at f from (suc n) (suc i) d l = values_at f (from + 1) n i d (omega arith) ∙ ap f {x = from + 1 + i} {y = from + suc i} (omega arith)

table_is_rule : CLASSES ≡ values ascii_class 0 256
table_is_rule = refl

pub class_read : (byte : ℕ) → byte < 256 → get_or CLASSES byte Letter ≡ ascii_class byte
class_read byte l =
    ap (λ classes. get_or classes byte Letter) table_is_rule ∙ values_at ascii_class 0 256 byte Letter l
    ∙ ap ascii_class {x = 0 + byte} {y = byte} (omega arith)

-- the lanes v of a vector, and vectors that were computed from it
module _ (v : List ℕ) (long : length v ≡ 16) where
  -- an operation with one number at each lane
  pub with_splat : (h : ℕ → ℕ → ℕ) (f : ℕ → ℕ) (y : ℕ) {xs : List ℕ} → xs ≡ map f v → zip2 h xs (replicate 16 y) ≡ map (λ b. h (f b) y) v
  with_splat h f y e =
      ap (λ xs. zip2 h xs (replicate 16 y)) e ∙ zip2_splat h (map f v) 16 y (length-map v f ∙ long) ∙ map-map (λ x. h x y) f v

  pub itself : v ≡ map (λ b. b) v
  itself = same v
    where
      same : (us : List ℕ) → us ≡ map (λ b. b) us
      same [] = refl
      same (u ∷ us) = ap (λ zs. u ∷ zs) (same us)

-- two functions with the same values at all bytes
module _ {X : Type 0} (f g : ℕ → X) (same : values f 0 256 ≡ values g 0 256) where
  at_byte : (b : ℕ) → Fits w8 b → f b ≡ g b
  at_byte b fits =
      let l : b < 256 = omega (arith, fits.fits) in
      ap f {x = b} {y = 0 + b} (omega arith) ∙ sym (values_at f 0 256 b (f 0) l) ∙ ap (λ zs. get_or zs b (f 0)) same
      ∙ values_at g 0 256 b (f 0) l ∙ ap g {x = 0 + b} {y = b} (omega arith)

  map_bytes : (v : List ℕ) → Each1 (Fits w8) v → map f v ≡ map g v
  map_bytes [] fits = refl
  map_bytes (b ∷ bs) fits = ap₂ (λ z zs. z ∷ zs) (at_byte b fits.0) (map_bytes bs fits.1)

-- the place j of a table can be looked up: it is one of sixteen, or gives 0
abbrev can_look : ℕ → Bool
can_look j = zeroes 16 w8 j || ltb j 16

-- what is found there
abbrev look : List ℕ → ℕ → ℕ
look table j = cond (zeroes 16 w8 j) 0 (get_or table j 0)

module _ (v : List ℕ) (long : length v ≡ 16) (f : ℕ → ℕ) {js : List ℕ} (places : js ≡ map f v) where
  pub may_look_up : Each1 (Fits w8) v → values (λ b. can_look (f b)) 0 256 ≡ values (λ b. true) 0 256 → SwzOk w8 16 16 0 js
  may_look_up fits all =
      SwzOk-from_Each1 w8 16 1 16 0 js (omega arith) (omega (arith, ap length places ∙ length-map v f ∙ long))
      (subst (Each1 (λ j. T (can_look j))) (sym places) (each v fits))
    where
      each : (us : List ℕ) → Each1 (Fits w8) us → Each1 (λ j. T (can_look j)) (map f us)
      each [] fits = tt
      each (u ∷ us) fits = (subst T (sym (at_byte (λ b. can_look (f b)) (λ b. true) all u fits.0)) tt, each us fits.1)

  pub looked_up : (table : List ℕ) → swz_l w8 16 table 0 js ≡ map (λ b. look table (f b)) v
  looked_up table = ap (swz_l w8 16 table 0) places ∙ from 0 v (omega (arith, long))
    where
      from : (i : ℕ) (us : List ℕ) → i + length us ≤ 16 → swz_l w8 16 table i (map f us) ≡ map (λ b. look table (f b)) us
      from i [] l = refl
      from i (u ∷ us) l =
          ap₂ (λ z zs. z ∷ zs)
          (ap (λ (n : ℕ). cond (zeroes 16 w8 (f u)) 0 (get_or table n 0)) {x = 16 * (i / 16) + f u} {y = f u} (omega (arith, l)))
          (from (suc i) us (omega (arith, l)))

abbrev pub code_of : ℕ → ℕ
code_of b = code (ascii_class b)

pub codes_are : (v : List ℕ) → Each1 (Fits w8) v → (f : ℕ → ℕ) (xs : List ℕ) → xs ≡ map f v → values f 0 256 ≡ values code_of 0 256
    → xs ≡ map code_of v
codes_are v fits f xs e same = e ∙ map_bytes f code_of same v fits

-- bytes are of one class if their codes are equal
abbrev pub same : ℕ → ℕ → Bool
same = on ascii_class is_class

equal_codes : (c d : AsciiClass) → eqb (code c) (code d) ≡ is_class c d
equal_codes Letter Letter = refl
equal_codes Digit Digit = refl
equal_codes Space Space = refl
equal_codes Other Other = refl
equal_codes c d = refl

coded : (xs ys : List ℕ) → zip2 (unequal eqb) (map code_of xs) (map code_of ys) ≡ zip2 (unequal same) xs ys
coded [] ys = refl
coded (x ∷ xs) [] = refl
coded (x ∷ xs) (y ∷ ys) = ap₂ (λ b bs. not b ∷ bs) (equal_codes (ascii_class x) (ascii_class y)) (coded xs ys)

-- the vectors us and vs hold the codes of the bytes xs and ys
module _ (xs ys us vs : List ℕ) (first : us ≡ map code_of xs) (second : vs ≡ map code_of ys) (long_first : length xs ≡ 16)
    (long_second : length ys ≡ 16) where
  long_us : length us ≡ 16
  long_us = ap length first ∙ length-map xs code_of ∙ long_first

  long_vs : length vs ≡ 16
  long_vs = ap length second ∙ length-map ys code_of ∙ long_second

  compared : zip2 (unequal eqb) us vs ≡ zip2 (unequal same) xs ys
  compared = ap₂ (zip2 (unequal eqb)) first second ∙ coded xs ys

  pub classes_mask : lanes_mask w8 (unequal eqb) us vs ≡ mask_l (zip2 (unequal same) xs ys)
  classes_mask = mask_of w8 (unequal eqb) us vs long_us long_vs ∙ ap mask_l compared
