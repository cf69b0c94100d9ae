use Rattle.std.proofs.Common.{rules}
use Rattle.std.proofs.lemmas.Fn.{always_returns_same}
use Rattle.example_walks.specs.Tens.{tens}
use Rattle.example_walks.proofs.writers.filled_by_tens.Goals as goal

pub filled_with_keys-requires-clause-settled : goal.filled_with_keys-requires-clause-settled
filled_with_keys-requires-clause-settled c = c.new.ensures.settled tens (always_returns_same _ _ _ (λ a r f' k. search rules)) tt
