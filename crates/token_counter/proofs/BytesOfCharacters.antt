-- The bytes of a text have the tokens of its characters.
use Rattle.std.proofs.Common.{◌≡◌, ℕ, suc, ◌+◌, ◌<◌, ◌≤◌, List, [], ◌∷◌, ◌++◌, length, get_or, true, cond}
use Rattle.std.proofs.Common.{refl, ap, sym, subst, ◌∙◌, append-nil, arith, Option, None, Some, ⊎_elim}
use Rattle.std.proofs.lemmas.Bool.{cases_lt}
use Rattle.std.proofs.lemmas.Bool.Decides.{nat_tests}
use Rattle.std.proofs.lemmas.Str.{encode_ascii, inside_one, length-encode, len_utf8_bounds, encodes-chars}
use Rattle.std.specs.Str.{chars, IsUtf8}
use lib.Utf8.{encode, encodes}
use Rattle.slice_group_simd.specs.declared.AsciiClass.{AsciiClass}
use Rattle.slice_group_simd.specs.declared.AsciiClass.TheVariants.{Letter, Digit, Space, Other}
use Rattle.slice_group_simd.specs.AsciiBytes.{ascii_class, is_class}
use Rattle.slice_group_simd.specs.Counted.{class_count}
use Rattle.slice_group_simd.specs.Starts.{begins}
use Rattle.token_counter.specs.Tokens.{token_count}

-- each is of the class
abbrev IsOfClass : AsciiClass → List ℕ → Type 0
IsOfClass class [] = Unit {0}
IsOfClass class (x ∷ xs) = (ascii_class x ≡ class) × IsOfClass class xs

high_is_other : (x : ℕ) → 128 ≤ x → ascii_class x ≡ Other
high_is_other x h = grind (arith, nat_tests)

all_high : (xs : List ℕ) → ((k : ℕ) → k < length xs → 128 ≤ get_or xs k 0) → IsOfClass Other xs
all_high [] h = tt
all_high (x ∷ xs) h = (high_is_other x (h 0 (omega arith)), all_high xs (λ k l. h (suc k) (omega arith)))

-- the bytes of a character beyond ASCII are of the class `Other`, as the character is
bytes_high : (c : ℕ) → 128 ≤ c → (k : ℕ) → k < length (encode c) → 128 ≤ get_or (encode c) k 0
bytes_high c h k l =
    ⊎_elim (λ low. absurd (omega (arith, inside_one c [] (encode c) k (sym (append-nil (encode c))) l low))) (λ high. high)
    (cases_lt (get_or (encode c) k 0) 128)

encode_class : (c : ℕ) → IsOfClass (ascii_class c) (encode c)
encode_class c =
    let Here : List ℕ → Type 0 = λ xs. IsOfClass (ascii_class c) xs in
    let Whole : AsciiClass → Type 0 = λ class. IsOfClass class (encode c) in
    ⊎_elim (λ low. subst Here (sym (encode_ascii c low)) (refl, tt))
    (λ high. subst Whole (sym (high_is_other c high)) (all_high (encode c) (bytes_high c high))) (cases_lt c 128)

encode_some : (c : ℕ) → 0 < length (encode c)
encode_some c = omega (arith, length-encode c, len_utf8_bounds c)

is_class_same : (c : AsciiClass) → is_class c c ≡ true
is_class_same Letter = refl
is_class_same Digit = refl
is_class_same Space = refl
is_class_same Other = refl

module _ (step : (k : AsciiClass) (before : Option AsciiClass) (b : ℕ) (bs : List ℕ)
    → class_count k before (b ∷ bs) ≡ begins k before (ascii_class b) + class_count k (Some (ascii_class b)) bs) where
  -- a stretch of one class counts as one character of it
  stretch : (k : AsciiClass) (before : Option AsciiClass) (c : AsciiClass) (xs ys : List ℕ) → 0 < length xs → IsOfClass c xs
      → class_count k before (xs ++ ys) ≡ begins k before c + class_count k (Some c) ys
  stretch k before c [] ys some h = absurd (omega arith)
  stretch k before c (x ∷ []) ys some h = step k before x ys ∙ ap (λ d. begins k before d + class_count k (Some d) ys) h.0
  stretch k before c (x ∷ y ∷ xs) ys some h =
      step k before x ((y ∷ xs) ++ ys) ∙ ap (λ d. begins k before d + class_count k (Some d) ((y ∷ xs) ++ ys)) h.0
      ∙ ap (λ n. begins k before c + n) (stretch k (Some c) c (y ∷ xs) ys (omega arith) h.1)
      ∙ ap (λ b. begins k before c + (cond b 0 (cond (is_class c k) 1 0) + class_count k (Some c) ys)) (is_class_same c) ∙ omega arith

  of_encodes : (k : AsciiClass) (before : Option AsciiClass) (cs : List ℕ) → class_count k before (encodes cs) ≡ class_count k before cs
  of_encodes k before [] = refl
  of_encodes k before (c ∷ cs) =
      stretch k before (ascii_class c) (encode c) (encodes cs) (encode_some c) (encode_class c)
      ∙ ap (λ n. begins k before (ascii_class c) + n) (of_encodes k (Some (ascii_class c)) cs) ∙ sym (step k before c cs)

  pub bytes_agree : (k : AsciiClass) (bytes : List ℕ) → IsUtf8 bytes → token_count k (chars bytes) ≡ token_count k bytes
  bytes_agree k bytes h = sym (of_encodes k None (chars bytes)) ∙ ap (class_count k None) (encodes-chars bytes h)
