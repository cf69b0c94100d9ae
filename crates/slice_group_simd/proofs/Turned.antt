-- The bits of a mask in the other order.
use Rattle.std.proofs.Common.{◌≡◌, ℕ, ◌+◌, ◌*◌, ◌/◌, ◌%◌, ◌≤◌, cond, Bool, true, false, List, [], ◌∷◌, ◌++◌, length}
use Rattle.std.proofs.Common.{append_assoc, refl, sym, ap, ap₂, ◌∙◌, arith, w16}
use Rattle.std.specs.Prelude.{reverse}
use Rattle.std.proofs.lemmas.List.{append-nil, reverse-append}
use Rattle.std.proofs.lemmas.Simd.{length-chunk}
use Rattle.std.specs.Int.{reverse_bits, reverse_bits_onto}
use Rattle.std.specs.Simd.Lanes.{chunk, mask_l}

bit_off : (b : Bool) (m : ℕ) → (cond b 1 0 + 2 * m) / 2 ≡ m
bit_off true m = omega arith
bit_off false m = omega arith

bit_on : (b : Bool) (m a : ℕ) → a * 2 + (cond b 1 0 + 2 * m) % 2 ≡ cond b 1 0 + 2 * a
bit_on true m a = omega arith
bit_on false m a = omega arith

turned_onto : (xs ys : List Bool) → reverse_bits_onto (length xs) (mask_l xs) (mask_l ys) ≡ mask_l (reverse xs ++ ys)
unfolding reverse_bits_onto
turned_onto [] ys = refl
turned_onto (x ∷ xs) ys =
    ap₂ (λ (m a : ℕ). reverse_bits_onto (length xs) m a) (bit_off x (mask_l xs)) (bit_on x (mask_l xs) (mask_l ys))
    ∙ turned_onto xs (x ∷ ys)
    ∙ ap mask_l (sym (append_assoc (reverse xs) (x ∷ []) ys) ∙ ap (λ zs. zs ++ ys) (sym (reverse-append (x ∷ []) xs)))

-- a mask of sixteen tests
pub mask_turned : (bs : List Bool) (at m : ℕ) → at + 16 ≤ length bs → m ≡ mask_l (chunk at 16 bs)
    → reverse_bits w16 m ≡ mask_l (reverse (chunk at 16 bs))
mask_turned bs at m room mask =
    let lanes = chunk at 16 bs in
    ap (λ (n : ℕ). reverse_bits w16 n) mask ∙ ap (λ (n : ℕ). reverse_bits_onto n (mask_l lanes) 0) (sym (length-chunk at 16 bs room))
    ∙ turned_onto lanes [] ∙ ap mask_l (append-nil (reverse lanes))
