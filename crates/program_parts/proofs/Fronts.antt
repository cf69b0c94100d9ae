-- The fronts of keys, which mostly tell how they stand to each other.
use Rattle.std.proofs.Common.{◌≡◌, ◌≢◌, ℕ, zero, suc, ◌+◌, ◌*◌, ◌<◌, ◌≤◌, List, [], ◌∷◌, get_or, refl, sym, arith}
use Rattle.std.specs.Cmp.Lexicographic.{slice_cmp, nat_list_cmp_total}
use Rattle.std.specs.Ordering.{nat_cmp, ordering_reverse}
use Rattle.std.specs.declared.cmp.Ordering.{Ordering}
use Rattle.std.specs.declared.cmp.Ordering.TheVariants.{Less, Equal, Greater}
use Rattle.std.proofs.lemmas.Bool.Decides.{nat_tests}
use Rattle.program_parts.specs.Records.{Record}
use Rattle.program_parts.specs.Rows.{IsFront, front, key_cmp}

-- how the fronts of texts stand to each other, the texts do
behind : (n before at x : ℕ) (text : List ℕ) → front n before (suc at) (x ∷ text) ≡ front n before at text
unfolding front
behind zero before at x text = refl
behind (suc n) before at x text = behind n (before * 256 + get_or text at 0) (suc at) x text

nothing : (n before at : ℕ) → front n before (suc at) [] ≡ front n before at []
unfolding front
nothing zero before at = refl
nothing (suc n) before at = nothing n (before * 256 + 0) (suc at)

-- n bytes of x behind more, and of y
lower : (n b c at : ℕ) (x y : List ℕ) → ((i : ℕ) → get_or x i 0 < 256) → b < c → front n b at x < front n c at y
unfolding front
lower zero b c at x y bytes l = l
lower (suc n) b c at x y bytes l =
    let small = bytes at in lower n (b * 256 + get_or x at 0) (c * 256 + get_or y at 0) (suc at) x y bytes (omega (arith, small, l))

least : (n b c at : ℕ) (y : List ℕ) → b ≤ c → front n b at [] ≤ front n c at y
unfolding front
least zero b c at y l = l
least (suc n) b c at y l = least n (b * 256 + 0) (c * 256 + get_or y at 0) (suc at) y (omega (arith, l))

-- of texts whose first bytes stand so
by_first : (n b x y : ℕ) (xs ys : List ℕ) (o : Ordering) → nat_cmp x y ≡ o → ((i : ℕ) → get_or (y ∷ ys) i 0 < 256)
    → front n (b * 256 + x) 0 xs < front n (b * 256 + y) 0 ys → (x ≡ y → slice_cmp nat_cmp xs ys ≡ Less)
    → slice_cmp nat_cmp (x ∷ xs) (y ∷ ys) ≡ Less
by_first n b x y xs ys Less is q l later = rw is refl
by_first n b x y xs ys Equal is q l later = let same : x ≡ y = grind (nat_tests, arith) in rw is (later same)
by_first n b x y xs ys Greater is q l later =
    let above : y < x = grind (nat_tests, arith) in
    let l' = lower n (b * 256 + y) (b * 256 + x) 0 ys xs (λ i. q (suc i)) (omega (arith, above)) in
    absurd (omega (arith, l, l'))

less : (n b : ℕ) (x y : List ℕ) → ((i : ℕ) → get_or x i 0 < 256) → ((i : ℕ) → get_or y i 0 < 256) → front n b 0 x < front n b 0 y
    → slice_cmp nat_cmp x y ≡ Less
unfolding front
less zero b x y p q l = absurd (omega (arith, l))
less (suc n) b [] [] p q l = absurd (omega (arith, l))
less (suc n) b [] (y ∷ ys) p q l = refl
less (suc n) b (x ∷ xs) [] p q l =
    let most = least n (b * 256 + 0) (b * 256 + x) 0 xs (omega arith) in
    let l' = rw (behind n (b * 256 + x) 0 x xs, nothing n (b * 256 + 0) 0) at l in
    absurd (omega (arith, most, l'))
less (suc n) b (x ∷ xs) (y ∷ ys) p q l =
    let l' = rw (behind n (b * 256 + x) 0 x xs, behind n (b * 256 + y) 0 y ys) at l in
    by_first n b x y xs ys (nat_cmp x y) refl q l'
    (λ same. less n (b * 256 + x) xs ys (λ i. p (suc i)) (λ i. q (suc i)) (rw (← same) at l'))

-- the same of keys: where their fronts differ, these tell
keys_below : (m n : ℕ) (xs ys : Record) → IsFront m xs → IsFront n ys → m < n → key_cmp xs ys ≡ Less
keys_below m n [] [] p q l = absurd (omega (arith, p, q, l))
keys_below m n [] (y ∷ ys) p q l = refl
keys_below m n (x ∷ xs) [] p q l = absurd (omega (arith, q, l))
keys_below m n (x ∷ xs) (y ∷ ys) p q l = rw (less 8 0 x y p.1 q.1 (rw (p.0, q.0) at l)) refl

turned : (o r : Ordering) → o ≡ ordering_reverse r → r ≡ Less → o ≡ Greater
turned o Less is e = is
turned o Equal is e = cc
turned o Greater is e = cc

keys_above : (m n : ℕ) (xs ys : Record) → IsFront m xs → IsFront n ys → n < m → key_cmp xs ys ≡ Greater
keys_above m n [] [] p q l = absurd (omega (arith, p, q, l))
keys_above m n [] (y ∷ ys) p q l = absurd (omega (arith, p, l))
keys_above m n (x ∷ xs) [] p q l = refl
keys_above m n (x ∷ xs) (y ∷ ys) p q l =
    let below = less 8 0 y x q.1 p.1 (rw (p.0, q.0) at l) in
    rw (turned _ _ (nat_list_cmp_total.antisymm x y) below) refl

pub by_fronts : (m n : ℕ) (xs ys : Record) → IsFront m xs → IsFront n ys → nat_cmp m n ≢ Equal → nat_cmp m n ≡ key_cmp xs ys
by_fronts m n xs ys p q other = by_order m n xs ys p q (nat_cmp m n) refl other
  where
    by_order : (m n : ℕ) (xs ys : Record) → IsFront m xs → IsFront n ys → (o : Ordering) → nat_cmp m n ≡ o → o ≢ Equal → o ≡ key_cmp xs ys
    by_order m n xs ys p q Less is other = sym (keys_below m n xs ys p q (grind (nat_tests, arith)))
    by_order m n xs ys p q Equal is other = absurd (other refl)
    by_order m n xs ys p q Greater is other = sym (keys_above m n xs ys p q (grind (nat_tests, arith)))
