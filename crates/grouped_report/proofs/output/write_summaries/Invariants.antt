use Rattle.std.proofs.Common.{map, take}
use Rattle.program_parts.specs.Written.{Writes}
use Rattle.grouped_report.specs.Output.{summary_row}
use Rattle.grouped_report.proofs.output.write_summaries.Given as goal

abbrev pub invariant-loop-summary : goal.invariant-loop-summary
invariant-loop-summary g l =
    Writes g.W.Write.contents l.initial.out l.out (map (summary_row l.counts) (take l.summary-index l.summaries))
