use Rattle.std.proofs.Common.{◌++◌, ◌∙◌, ap, sym, refl, map}
use Rattle.std.proofs.lemmas.List.{map-append}
use Rattle.program_parts.specs.Rows.{row_at}
use Rattle.program_parts.proofs.table.Table.read_block.Goals as goal

pub push_block-requires : goal.push_block-requires
push_block-requires g c =
    let so = c.in_ok-self.ensures.reads in (so.given, so.fields_are, rw c.deref.ensures.value so.count)

pub returns : goal.returns
returns g c =
    let so = c.in_ok-self.ensures.reads in
    let layout = c.args.self.now.layout in
    record {
      stays = record {
        layout = refl;
        width = c.read_fields.ensures.width;
        names = c.read_fields.ensures.names;
        end = c.in_ok-self.ensures.end;
      };
      more = map (row_at layout) so.given;
      behind = c.in_ok-push_block.ensures so.given so.fields_are (rw c.deref.ensures.value so.count);
      reads =
          λ all rows h.
          record {
            records = h.records ++ so.given;
            given = so.gives all h.records h.given;
            rows_are = ap (λ l. l ++ map (row_at layout) so.given) h.rows_are ∙ sym (map-append (row_at layout) h.records so.given);
          };
    }
