use Rattle.std.proofs.Common.{◌≡◌, ◌+◌}
use Rattle.sgb_linear_str_group.proofs.copies.count.Given as goal

abbrev pub invariant-loop : goal.invariant-loop
invariant-loop l = l.judge.asked ≡ l.initial.judge.asked + l.counter
