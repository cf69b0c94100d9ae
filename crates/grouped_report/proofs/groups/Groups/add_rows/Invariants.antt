use Rattle.std.proofs.Common.{◌≡◌, ◌++◌, List}
use Rattle.std.specs.List.{fold}
use Rattle.std.specs.Option.{option_to_list}
use Rattle.slice_group_stream.specs.Closing.{take_part}
use Rattle.grouped_report.specs.Groups.{Summary, longer, summary_if}
use Rattle.grouped_report.proofs.groups.Groups.add_rows.Given as goal

abbrev pub invariant-loop-begins : goal.invariant-loop-begins
invariant-loop-begins l =
    (written : List Summary) → (written ++ l.self.closed.items, l.self.current)
    ≡ fold (λ m x. take_part summary_if longer option_to_list m (x.0, x.1.now))
    (written ++ l.initial.self.closed.items, l.initial.self.current) l.yielded
