use Rattle.std.proofs.Common.{◌≡◌, ◌+◌, ℕ, List, [], ◌∷◌, ◌++◌, length, map, refl, ap, ◌∙◌, arith, rules, zero, suc}
use Rattle.std.specs.Prelude.{slice_index_or, slice_set}
use Rattle.slice_group_stream.specs.Streams.{change_last}
use Rattle.example_walks.proofs.tokens.add_token.Goals as goal

-- one put in the place of the last, that shows a part more
put_last : {V : Type 0} (show : V → List ℕ) (vs : List V) (place : ℕ) (v w : V) (part : List ℕ) → place + 1 ≡ length vs
    → v ≡ slice_index_or vs place v → show w ≡ show v ++ part → map show (slice_set vs place w) ≡ change_last (λ g. g ++ part) (map show vs)
put_last show [] place v w part len is e = refl
put_last show (x ∷ []) zero v w part len is e = ap (λ l. l ∷ []) (e ∙ ap (λ u. show u ++ part) is)
put_last show (x ∷ []) (suc n) v w part len is e = absurd (omega (arith, len))
put_last show (x ∷ y ∷ ys) zero v w part len is e = absurd (omega (arith, len))
put_last show (x ∷ y ∷ ys) (suc n) v w part len is e =
    ap (λ l. show x ∷ l) (put_last show (y ∷ ys) n v w part (omega (arith, len)) is e)

pub returns-in_ok-extend_from_slice-2 : goal.returns-in_ok-extend_from_slice-2
returns-in_ok-extend_from_slice-2 c =
    rw c.if-begins.false (put_last (λ token. token.items) c.args.tokens.now.items _ c.in-Some.token.now _ c.args.part.now (search rules)
    c.in-Some.ensures.value c.in_ok-extend_from_slice-2.ensures.items)
