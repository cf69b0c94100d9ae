use Rattle.std.proofs.Common.{◌≡◌, ◌++◌, map, flat_map}
use Rattle.slice_merge_join.specs.Asking.{shown}
use Rattle.slice_merge_join.specs.Merge.{lefts, rights}
use Rattle.example_joins.proofs.logs.merge_logs.Given as goal

abbrev pub invariant-loop-part : goal.invariant-loop-part
invariant-loop-part l = l.merged.items ≡ flat_map (λ p. lefts p ++ rights p) (map shown l.yielded)
