use Rattle.std.proofs.Common.{◌≡◌, flat_map, map}
use Rattle.std.specs.Option.{option_to_list}
use Rattle.grouped_report.specs.Groups.{summary_if}
use Rattle.grouped_report.proofs.sums.summaries.Given as goal

abbrev pub invariant-loop-group : goal.invariant-loop-group
invariant-loop-group l = l.sums.items ≡ flat_map (λ g. option_to_list (summary_if g)) (map (λ group. group.now) l.yielded)
