use Rattle.std.proofs.Common.{ℕ, ◌≡◌, ◌<◌, [], ◌∷◌, refl, arith, inl, inr}
use Rattle.std.specs.Str.{chars}
use Rattle.slice_group_by.specs.Split.{AreNeighbours}
use Rattle.test_cases.proofs.texts.ascending_at_the_back.Goals as goal

characters : chars (97 ∷ 98 ∷ 99 ∷ 100 ∷ 101 ∷ []) ≡ 97 ∷ 98 ∷ 99 ∷ 100 ∷ 101 ∷ []
unfolding chars
characters = refl

ascend : (q : ℕ × ℕ) → AreNeighbours (97 ∷ 98 ∷ 99 ∷ 100 ∷ 101 ∷ []) q → q.0 < q.1
ascend q (inl e) = omega (arith, e.0, e.1)
ascend q (inr (inl e)) = omega (arith, e.0, e.1)
ascend q (inr (inr (inl e))) = omega (arith, e.0, e.1)
ascend q (inr (inr (inr (inl e)))) = omega (arith, e.0, e.1)
ascend q (inr (inr (inr (inr n)))) = absurd n

pub linear_group_by-groups-requires : goal.linear_group_by-groups-requires
linear_group_by-groups-requires g c = rw characters (λ rs t run. ascend)
