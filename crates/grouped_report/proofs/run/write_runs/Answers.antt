use Rattle.std.proofs.Common.{[], ◌∷◌, ◌++◌, append-nil, refl}
use Rattle.std.specs.Option.{option_to_list}
use Rattle.program_parts.proofs.RecordsGiven.{all_said, none_said}
use Rattle.program_parts.proofs.Writing.{writes_none}
use Rattle.grouped_report.specs.Groups.{same_group, summary_if}
use Rattle.grouped_report.specs.Input.{row_in}
use Rattle.grouped_report.proofs.Written.{all_written, more_written}
use Rattle.grouped_report.proofs.run.write_runs.Goals as goal
use Rattle.grouped_report.proofs.run.write_runs.Goals.{then-is_row+in_ok-add_rows, else-is_row}

pub loop-init : goal.loop-init
loop-init g c =
    let new = c.new-groups.ensures in (
      new.none_closed,
      λ format input is_new. (
        [],
        [],
        writes_none g.W.Write.contents _,
        record { stream = refl; closed = new.none_closed; opened = new.none },
        none_said (row_in c.args.places.now) g.R.Read.remaining format input c.args.records.now is_new,
      ),
    )

pub loop-preserved : goal.loop-preserved
loop-preserved g c =
    let out = c.in_ok-write_closed.ensures in (
      out.none_closed,
      λ format input new.
          let (said, written, writes, closed, s) = c.loop.invariant.1 format input new in
          let next = c.in_ok-is_row.ensures.said format input said s in
          let more = c.if-is_row.groups.closed.items in
          let wrote = more_written g.W.Write.contents c.args.counts _ _ _ written more writes out.writes in
          elim c.if-is_row.branch [
            | then-is_row+in_ok-add_rows w ↦ (
              said ++ c.next_row.new.row ∷ [],
              written ++ more,
              wrote,
              rw (out.none_closed, append-nil (written ++ more), out.current, w.groups-is)
                  (rw w.from_ref.ensures.value at (w.in_ok-add_rows.ensures written said closed)),
              rw (c.in-Some.is, w.if-is_row.true) at next,
            )
            | else-is_row w ↦ (
              said,
              written ++ more,
              wrote,
              rw (out.none_closed, append-nil (written ++ more), out.current, w.groups-is) closed,
              rw (c.in-Some.is, w.if-is_row.false, append-nil) at next,
            )
          ],
    )

pub returns-in_default : goal.returns-in_default
returns-in_default g c format input new =
    let (said, written, writes, closed, s) = c.loop.invariant.1 format input new in
    let groups = c.loop.groups in
    let last = rw (c.in_default.is, append-nil) at (c.in_ok-is_row.ensures.said format input said s) in
    let then = rw (c.deref.ensures.value, c.in_ok-close.ensures.closed) at c.in_ok-write_summaries.ensures in
    record {
      said = said;
      are_said = all_said (row_in c.args.places.now) g.R.Read.remaining format input said c.next_row.new.records
          c.in_ok-is_whole.is_whole last (c.in_ok-is_row.ensures.end c.in_default.is) c.in_ok-is_whole.ensures;
      rows = said;
      in_order = refl;
      writes = all_written g.W.Write.contents c.args.counts _ _ _ groups.current groups.closed.items written said
          (c.one_split.ensures.exists same_group said)
          (c.groups_close.ensures.all same_group summary_if option_to_list _ _ _ said refl closed) writes then;
    }
