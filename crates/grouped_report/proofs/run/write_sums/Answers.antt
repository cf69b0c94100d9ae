use Rattle.std.proofs.Common.{[], ◌∷◌, ◌++◌, refl, ap, ◌∙◌, append-nil, subst, map}
use Rattle.program_parts.proofs.RecordsGiven.{all_said, none_said}
use Rattle.program_parts.specs.Written.{Writes}
use Rattle.grouped_report.specs.Input.{row_in}
use Rattle.grouped_report.specs.Output.{summary_row}
use Rattle.grouped_report.proofs.Written.{rows_of_made}
use Rattle.grouped_report.proofs.run.write_sums.Goals as goal
use Rattle.grouped_report.proofs.run.write_sums.Goals.{then-is_row+in_ok-add, else-is_row}

pub loop-init : goal.loop-init
loop-init g c = (
  refl,
  λ format input new.
      ([], c.new-sums.ensures, none_said (row_in c.args.places.now) g.R.Read.remaining format input c.args.records.now new),
)

pub loop-preserved : goal.loop-preserved
loop-preserved g c = (
  c.loop.invariant.0,
  λ format input new.
      let (said, summed, s) = c.loop.invariant.1 format input new in
      let next = c.in_ok-is_row.ensures.said format input said s in
      elim c.if-is_row.branch [
        | then-is_row+in_ok-add w ↦ (
          said ++ c.next_row.new.row ∷ [],
          rw w.sums-is (w.in_ok-add.ensures said summed),
          rw (c.in-Some.is, w.if-is_row.true) at next,
        )
        | else-is_row w ↦ (said, rw w.sums-is summed, rw (c.in-Some.is, w.if-is_row.false, append-nil) at next)
      ],
)

pub returns-in_default : goal.returns-in_default
returns-in_default g c format input new =
    let (said, summed, s) = c.loop.invariant.1 format input new in
    let last = rw (c.in_default.is, append-nil) at (c.in_ok-is_row.ensures.said format input said s) in
    let made = c.in_ok-sums.ensures said summed in
    let wrote = rw (c.deref.ensures.value, c.loop.invariant.0) at c.in_ok-write_summaries.ensures in
    record {
      said = said;
      are_said = all_said (row_in c.args.places.now) g.R.Read.remaining format input said c.next_row.new.records
          c.in_ok-is_whole.is_whole last (c.in_ok-is_row.ensures.end c.in_default.is) c.in_ok-is_whole.ensures;
      rows = made.sorted;
      in_order = made.are_sorted;
      writes = subst (Writes g.W.Write.contents c.args.out.now c.write_summaries.new.out)
          (ap (map (summary_row c.args.counts)) made.are_summaries ∙ rows_of_made c.args.counts _) wrote;
    }
