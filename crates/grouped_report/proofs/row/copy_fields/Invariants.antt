use Rattle.std.proofs.Common.{◌≡◌, map, take}
use Rattle.grouped_report.proofs.row.copy_fields.Given as goal

abbrev pub invariant-loop-field : goal.invariant-loop-field
invariant-loop-field l = map (λ field. field.items) l.copy.items ≡ map (λ field. field.items) (take l.field-index l.fields)
