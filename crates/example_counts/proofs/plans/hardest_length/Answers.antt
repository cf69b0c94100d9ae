use Rattle.std.proofs.Common.{◌≡◌, ℕ, ◌-◌, ◌^◌, ◌<◌, ◌≤◌, ◌⊎◌, inl, inr, arith}
use Rattle.std.specs.Prelude.{◌≢◌}
use Rattle.std.proofs.Math.Pow.{pow_mono}
use Rattle.slice_group_by.specs.Searching.{digits}
use Rattle.example_counts.proofs.plans.hardest_length.Goals as goal

enough : (n l answer asked : ℕ) → answer ≡ l → n - 1 < 2 ^ digits (n - 1) → (answer ≢ l) ⊎ (digits (n - 1) ≤ asked) → n ≤ 2 ^ asked
enough n l answer asked right above (inl wrong) = absurd (wrong right)
enough n l answer asked right above (inr most) = omega (arith, above, pow_mono most)

pub returns : goal.returns
returns c =
    let given = c.refute.ensures in
    enough c.args.n c.refute.result _ _ (c.requires.right _ given.first given.last)
    (c.right_plans_ask.ensures.above (c.args.n - 1)) given.refuted
