use Rattle.std.proofs.Common.{◌++◌, None, get_or, arith, ap, ◌∙◌}
use Rattle.std.proofs.lemmas.List.{take_more}
use Rattle.grouped_report.specs.Amounts.{sum_text}
use Rattle.program_parts.proofs.Places.{fields_more}
use Rattle.grouped_report.proofs.output.push_sums.Goals as goal

pub loop-sum-preserved : goal.loop-sum-preserved
loop-sum-preserved c =
    let sum = get_or c.args.sums.now c.loop-sum.sum-index None in (
      fields_more sum_text _ _ _ _ _ c.args.sums.now c.loop-sum.sum-index sum
          (take_more c.args.sums.now c.loop-sum.sum-index None (omega arith)) c.loop-sum.invariant.0 c.loop-sum.invariant.1
          (c.deref.ensures.value ∙ c.in_ok-push_sum.ensures ∙ ap (λ l. l ++ sum_text sum) c.clear.ensures.items)
          c.in_ok-push_field.ensures.fields,
      c.in_ok-push_field.ensures.partial,
    )
