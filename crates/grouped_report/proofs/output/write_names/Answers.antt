use Rattle.std.proofs.Common.{◌≡◌, [], ◌∷◌, ◌++◌, Bool, false, length, ◌==◌, map, if◌then◌else◌, refl, ap, ◌∙◌, sym, subst}
use Rattle.std.specs.Prelude.{codes}
use Rattle.csv.specs.Records.{fields_of}
use Rattle.program_parts.specs.Records.{Record, field}
use Rattle.program_parts.specs.Written.{Writes}
use Rattle.grouped_report.specs.Output.{names_rows, sum_name}
use Rattle.grouped_report.specs.declared.columns.Places.{Places}
use Rattle.grouped_report.proofs.output.write_names.Goals as goal

-- the row of the names, where there are any
names_row : (counts : Bool) (places : Places) (names row : Record) → (length names == 0) ≡ false
    → row ≡ map (field names) places.by.items ++ (if counts then codes "count" ∷ [] else [])
    ++ map (sum_name names places.by.items) places.sum.items
    → row ∷ [] ≡ names_rows counts places names
names_row counts places [] row some is = cc
names_row counts places (name ∷ names) row some is = ap (λ (r : Record). r ∷ []) is

pub returns : goal.returns
returns g c =
    let names = fields_of c.args.names.now in
    let places = c.args.places.now in
    let row : fields_of c.push_sum_names.new.row
    ≡ map (field names) places.by.items ++ (if c.args.counts then codes "count" ∷ [] else [])
    ++ map (sum_name names places.by.items) places.sum.items =
    rw (
      c.in_ok-push_sum_names.ensures.fields,
      c.in_ok-push_if.ensures.fields,
      c.in_ok-push_fields.ensures.fields,
      c.new-row.ensures.fields,
      c.deref.ensures.value,
      c.deref-2.ensures.value,
      c.deref-3.ensures.value,
    ) refl in
    subst (Writes g.W.Write.contents c.args.out.now c.write_record.new.out)
    (names_row c.args.counts places names _ (sym c.is_empty.ensures ∙ c.if-is_empty.false) row)
    c.in_ok-write_record.ensures
