use Rattle.std.proofs.Common.{◌≡◌, ◌-◌, ◌^◌, ◌&&◌, min}
use Rattle.std.specs.List.{count_by}
use Rattle.example_walks.specs.Words.{is_word}
use Rattle.example_walks.proofs.words.count_begun.Given as goal

abbrev pub invariant-loop-begins : goal.invariant-loop-begins
invariant-loop-begins l = l.words ≡ min (count_by (λ x. x.0 && is_word x.1.now) l.yielded) (2 ^ 64 - 1)
