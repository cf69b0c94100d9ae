use Rattle.std.proofs.Common.{refl}
use Rattle.grouped_report.proofs.output.name_of_sum.Goals as goal
use Rattle.grouped_report.proofs.output.name_of_sum.Goals.{then-is_among+in_ok-extend_from_slice, else-is_among}

pub returns : goal.returns
returns c =
    elim c.if-is_among.branch [
      | then-is_among+in_ok-extend_from_slice w ↦
          rw (
            c.in_ok-extend_from_slice-2.ensures.items,
            w.name-is,
            w.in_ok-extend_from_slice.ensures.items,
            c.new-name.ensures.items,
            c.field_or_empty.ensures,
            ← c.is_among.ensures,
            w.if-is_among.true,
          ) refl
      | else-is_among w ↦
          rw (
            c.in_ok-extend_from_slice-2.ensures.items,
            w.name-is,
            c.new-name.ensures.items,
            c.field_or_empty.ensures,
            ← c.is_among.ensures,
            w.if-is_among.false,
          ) refl
    ]
