use Rattle.std.proofs.Common.{◌≡◌, map}
use Rattle.std.specs.List.{fold}
use Rattle.example_counts.specs.Longest.{longer}
use Rattle.example_counts.proofs.parts.longest_from.Given as goal

abbrev pub invariant-loop-group : goal.invariant-loop-group
invariant-loop-group l = l.most ≡ fold longer l.fn.start (map (λ group. group.now) l.yielded)
