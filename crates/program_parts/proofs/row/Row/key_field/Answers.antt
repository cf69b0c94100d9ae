use Rattle.std.proofs.Common.{◌∙◌, ap, arith}
use Rattle.csv.specs.Records.{fields_of}
use Rattle.program_parts.proofs.RowFields.{field_cut}
use Rattle.program_parts.specs.Rows.{Row}
use Rattle.program_parts.proofs.row.Row.key_field.Goals as goal

pub returns : goal.returns
returns c =
    let part = ap (λ (r : Row). r.key) c.self.view_is in
    rw c.deref.ensures at c.field_or_empty.ensures
    ∙ field_cut c.self.inside.block.value.key c.self.inside.at c.args.place (fields_of c.self.inside.block.value.fields) _ part c.requires
    (omega (arith, c.self.invariant.0))
