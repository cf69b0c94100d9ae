use Rattle.std.proofs.Common.{rules}
use Rattle.std.proofs.lemmas.Fn.{always_returns_same}
use Rattle.example_counts.proofs.totals.totalled.Goals as goal

pub totals_kept-requires-clause-settled : goal.totals_kept-requires-clause-settled
totals_kept-requires-clause-settled c =
    c.new.ensures.settled (λ e. e.0) (always_returns_same _ _ _ (λ a r f' k. search rules))
    (c.ascending_is_grouped.ensures.by_key (λ e. e.0) c.args.slice.now c.requires.sorted)
