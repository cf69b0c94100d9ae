use Rattle.std.proofs.Common.{ℕ, Bool, rules, nat_lt, arith}
use Rattle.std.proofs.lemmas.Bool.Decides.{nat_tests}
use Rattle.std.proofs.lemmas.Fn.{always_returns_same}
use Rattle.slice_group_by.proofs.AllByRecursion.{all_each}
use Rattle.example_counts.specs.Keys.{key}
use Rattle.example_counts.proofs.pieces.keep_greatest.Goals as goal

abbrev worse : ℕ × ℕ → ℕ × ℕ → Bool
worse kept row = nat_lt kept.1 row.1

pub returns : goal.returns
returns c =
    let bests = c.bests_are_greatest.ensures worse (λ x y e. grind (arith, nat_tests, e))
    (λ x y z e f. grind (arith, nat_tests, e, f)) key c.args.rows.now c.requires in
    rw (c.partition_best_by_key.ensures.best key worse (always_returns_same _ _ _ (λ a r f' k. search rules))
    (always_returns_same _ _ _ (λ a r f' k. search rules)))
    (all_each _ _ (λ best h. (h.0, λ row at one. grind (arith, nat_tests, h.1 row at one))) _ bests)
