use Rattle.std.proofs.Common.{append-nil}
use Rattle.program_parts.proofs.Writing.{writes_both}
use Rattle.grouped_report.proofs.run.write_closed.Goals as goal

pub returns-in_ok-pass_on-clause-writes : goal.returns-in_ok-pass_on-clause-writes
returns-in_ok-pass_on-clause-writes g c =
    rw append-nil at (writes_both g.W.Write.contents _ _ c.pass_on.new.out _ _ (rw c.deref.ensures.value at c.in_ok-write_summaries.ensures)
    c.in_ok-pass_on.ensures.writes)
