use Rattle.std.proofs.Common.{◌≡◌, map}
use Rattle.slice_merge_join.specs.Asking.{shown}
use Rattle.grouped_report.specs.Sums.{counts_of}
use Rattle.grouped_report.proofs.sums.part_counts.Given as goal

abbrev pub invariant-loop-part : goal.invariant-loop-part
invariant-loop-part l = l.counts.items ≡ map counts_of (map shown l.yielded)
