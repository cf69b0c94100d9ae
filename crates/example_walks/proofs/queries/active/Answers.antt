use Rattle.std.proofs.Common.{ℕ, Bool, rules, tests, get_or, nat_eq, not, sym, ap, ◌∙◌}
use mathlib.Core.Bool.{beq}
use Rattle.std.proofs.lemmas.Fn.{always_returns_same}
use Rattle.std.proofs.lemmas.Result.{IfOk-weaker}
use Rattle.std.proofs.lemmas.Iterator.Consumers.{YieldsList-at, YieldsList-from_filter, map_from_collect}
use Rattle.std.proofs.lemmas.List.Folds.{flat_map-map}
use Rattle.slice_group_by.specs.End.TheVariants.{Front}
use Rattle.slice_group_by.specs.Split.{concat}
use Rattle.example_walks.proofs.queries.active.Goals as goal

pub returns : goal.returns
returns c =
    let is_zero : ℕ → Bool = λ x. nat_eq x 0 in
    let alike : ℕ → ℕ → Bool = λ a b. beq (is_zero a) (is_zero b) in
    let settled = c.new-groups.ensures.settled is_zero (always_returns_same _ _ _ (λ a r f' k. search (rules, tests))) tt in
    let seen = YieldsList-at c.filter.ensures.source (c.sees_pieces.ensures.pieces alike Front c.new-groups.result settled) in
    let found = rw c.new-groups.ensures.remainder at (map_from_collect _ c.collect.ensures.ran
    (YieldsList-from_filter _ (λ g. not (is_zero (get_or g 0 0))) seen c.filter.ensures.closure (λ x b q k. search (rules, tests)))) in
    let passed = c.passed_pieces_join.ensures alike (λ x. not (is_zero x)) (λ x y e. search (rules, tests)) 0 c.args.levels.now in record {
      runs = found;
      joined = IfOk-weaker c.collect.result _ _ (λ v e. sym (flat_map-map (λ g. g) (λ g. g.now) v.items) ∙ ap concat e ∙ passed) found;
    }
