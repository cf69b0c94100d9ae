use Rattle.std.proofs.Common.{◌≡◌, filter, nat_eq, not}
use Rattle.std.specs.List.{list_any, range_with_len}
use Rattle.program_parts.proofs.layout.other_places.Given as goal

abbrev pub invariant-loop-place : goal.invariant-loop-place
invariant-loop-place l =
    l.others.items ≡ filter (λ place. not (list_any (λ other. nat_eq other place) l.places)) (range_with_len 0 l.place)
