use Rattle.std.proofs.Common.{rules}
use Rattle.std.specs.Char.{is_ascii_alphabetic}
use Rattle.std.proofs.lemmas.Fn.{always_returns_same}
use Rattle.example_walks.proofs.capitals.capitalized.Goals as goal

pub groups_capitalized-requires-clause-letters : goal.groups_capitalized-requires-clause-letters
groups_capitalized-requires-clause-letters c =
    c.new.ensures.settled is_ascii_alphabetic (always_returns_same _ _ _ (λ a r f' k. search rules))
