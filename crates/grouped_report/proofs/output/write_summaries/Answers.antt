use Rattle.std.proofs.Common.{◌≡◌, ◌+◌, ◌++◌, ◌∷◌, [], arith, take}
use Rattle.std.proofs.lemmas.Grind.{common_steps}
use Rattle.program_parts.proofs.Writing.{writes_one_more}
use Rattle.grouped_report.specs.Output.{summary_row}
use Rattle.grouped_report.proofs.output.write_summaries.Goals as goal

pub loop-summary-preserved : goal.loop-summary-preserved
loop-summary-preserved g c =
    let summaries = c.args.summaries.now in
    let i = c.loop-summary.summary-index in
    let next : take (i + 1) summaries ≡ take i summaries ++ c.summary-item.result ∷ [] = grind (arith, common_steps) in
    writes_one_more g.W.Write.contents _ c.loop-summary.out c.write_summary.new.out (summary_row c.args.counts) summaries i _ next
    c.loop-summary.invariant c.in_ok-write_summary.ensures
