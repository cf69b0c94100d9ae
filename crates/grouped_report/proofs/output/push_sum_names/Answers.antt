use Rattle.std.proofs.Common.{get_or, arith, ◌∙◌}
use Rattle.std.proofs.lemmas.List.{take_more}
use Rattle.csv.specs.Records.{fields_of}
use Rattle.grouped_report.specs.Output.{sum_name}
use Rattle.program_parts.proofs.Places.{fields_more}
use Rattle.grouped_report.proofs.output.push_sum_names.Goals as goal

pub loop-place-preserved : goal.loop-place-preserved
loop-place-preserved c =
    let places = c.args.places.now in
    let i = c.loop-place.place-index in (
      fields_more (sum_name (fields_of c.args.names.now) c.args.by.now) _ _ _ _ _ places i (get_or places i 0)
          (take_more places i 0 (omega arith)) c.loop-place.invariant.0 c.loop-place.invariant.1
          (c.deref.ensures.value ∙ c.in_ok-name.ensures) c.in_ok-push_field.ensures.fields,
      c.in_ok-push_field.ensures.partial,
    )
