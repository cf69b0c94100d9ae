use Rattle.std.proofs.Common.{◌≡◌, map, get_or}
use Rattle.example_counts.specs.Keys.{key}
use Rattle.example_counts.proofs.pieces.keys_once.Given as goal

abbrev pub invariant-loop-group : goal.invariant-loop-group
invariant-loop-group l = l.keys.items ≡ map key (map (λ g. get_or g 0 (0, 0)) (map (λ group. group.now) l.yielded))
