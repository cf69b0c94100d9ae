use Rattle.std.proofs.Common.{rules, arith, ◌∙◌, Some}
use Rattle.std.proofs.lemmas.List.Sums.{sum_by-append}
use Rattle.example_counts.specs.Keys.{same_key}
use Rattle.example_counts.specs.Totals.{kept}
use Rattle.example_counts.proofs.KeptTotals.{set_is_kept}
use Rattle.slice_group_by.specs.End.TheVariants.{Front}
use Rattle.example_counts.proofs.totals.totals_kept.Goals as goal

pub loop-group-preserved-derived : goal.loop-group-preserved-derived
loop-group-preserved-derived g c =
    (rw (c.note_front.ensures.remainder, c.note_front.ensures.judge) c.in-Some.ensures.goes.keeps, search rules)

pub loop-group-preserved : goal.loop-group-preserved
loop-group-preserved g c =
    let i = c.loop-group.invariant in
    let steps = c.in-Some.ensures.steps in
    let note = c.note_front.ensures in
    let s = c.loop-group.groups in
    let t = c.next.new.self in
    let group = c.in-Some.group in
    record {
      settled = rw (note.remainder, note.judge) (c.calls_take_pieces.ensures.settled same_key Front s t (Some group) steps i.settled);
      fits = grind (arith, sum_by-append);
      noted = record {
        root = search rules;
        cuts = search rules;
        done =
            c.notes_keep_pieces.ensures same_key kept Front s t c.note_front.new.self group _ _ steps i.settled note.remainder
            note.before note.after (c.of.ensures.value ∙ set_is_kept group.now c.total_of.result c.total_of.ensures) i.noted.done;
      };
    }
