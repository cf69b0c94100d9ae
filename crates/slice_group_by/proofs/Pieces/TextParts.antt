-- The bytes of the groups of a text: each group is UTF-8, and so the encodings of its characters; and there are no more characters than bytes.
use Rattle.std.proofs.Common.{◌≡◌, ℕ, zero, suc, ◌+◌, ◌-◌, ◌*◌, ◌≤◌, List, [], ◌∷◌, length, Option, None, Some, map, refl, sym, ap, arith, ◌∙◌}
use Rattle.std.proofs.Math.Utf8.{encodes}
use Rattle.std.proofs.lemmas.Str.{encodes-chars}
use Rattle.std.specs.Prelude.{option_map, IfSome}
use Rattle.std.specs.Str.{chars, IsUtf8, chars_after, continuation_len, lead_bits}
use Rattle.std.specs.List.{AllByRecursion}
use Rattle.sgb_split.specs.declared.end.End.{End}
use Rattle.slice_group_by.specs.Walk.{IsChain}

-- what each call says of its group holds of the groups of a list of calls
pub chain_utf8 : {Q I : Type 0} (gives : End → Q → Option I → Q → Type 0) (bytes : I → List ℕ)
    → ((e : End) (q : Q) (o : Option I) (t : Q) → gives e q o t → IfSome o (λ x. IsUtf8 (bytes x)))
    → (q : Q) (es : List End) (os : List (Option I)) (t : Q) → IsChain gives q es os t
    → AllByRecursion (λ o. IfSome o (λ x. IsUtf8 (bytes x))) os
chain_utf8 gives bytes utf8 q [] [] t c = tt
chain_utf8 gives bytes utf8 q [] (o ∷ os) t c = absurd c
chain_utf8 gives bytes utf8 q (e ∷ es) [] t c = absurd c
chain_utf8 gives bytes utf8 q (e ∷ es) (o ∷ os) t c = (utf8 e q o c.0 c.1, chain_utf8 gives bytes utf8 c.0 es os t c.2)

-- bytes that are UTF-8 are the encodings of their characters
pub encoded : {I : Type 0} (bytes : I → List ℕ) (os : List (Option I)) → AllByRecursion (λ o. IfSome o (λ x. IsUtf8 (bytes x))) os
    → map (option_map bytes) os ≡ map (option_map encodes) (map (option_map (λ x. chars (bytes x))) os)
encoded bytes [] h = refl
encoded bytes (None ∷ os) h = ap (λ r. None ∷ r) (encoded bytes os h.1)
encoded bytes (Some x ∷ os) h =
    ap (λ b. Some b ∷ map (option_map bytes) os) (sym (encodes-chars (bytes x) h.0))
    ∙ ap (λ r. Some (encodes (chars (bytes x))) ∷ r) (encoded bytes os h.1)

-- a text has no more characters than bytes
length-chars_after : (n c : ℕ) (text : List ℕ) → length (chars_after n c text) ≤ 1 + length text
length-chars_after zero c [] = omega arith
length-chars_after zero c (b ∷ bs) = omega (arith, length-chars_after (continuation_len b) (lead_bits b) bs)
length-chars_after (suc n) c [] = omega arith
length-chars_after (suc n) c (b ∷ bs) = omega (arith, length-chars_after n (c * 64 + (b - 128)) bs)

pub length-chars : (text : List ℕ) → length (chars text) ≤ length text
unfolding chars
length-chars [] = omega arith
length-chars (b ∷ bs) = omega (arith, length-chars_after (continuation_len b) (lead_bits b) bs)
