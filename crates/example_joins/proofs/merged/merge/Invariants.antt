use Rattle.std.proofs.Common.{◌≡◌, ◌++◌, take, flat_map}
use Rattle.example_joins.proofs.merged.merge.Given as goal

abbrev pub invariant-loop-part : goal.invariant-loop-part
invariant-loop-part g l = l.merged.items ≡ flat_map (λ q. q.0.now ++ q.1.now) (take l.part-index l.part-items)
