use Rattle.std.proofs.Common.{◌≡◌, ◌++◌, take, drop}
use Rattle.std.specs.Vec.Iter.{into_iter_items}
use Rattle.grouped_report.proofs.sums.move_some.Given as goal

abbrev pub invariant-loop : goal.invariant-loop
invariant-loop l = record {
  moved : l.sums.items ≡ l.initial.sums.items ++ take l.counter (into_iter_items l.initial.from);
  rest : into_iter_items l.from ≡ drop l.counter (into_iter_items l.initial.from);
}
