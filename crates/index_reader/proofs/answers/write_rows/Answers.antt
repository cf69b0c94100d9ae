use Rattle.std.proofs.Common.{◌∷◌, ◌++◌, [], map, take, sym, ap, ◌∙◌, subst}
use Rattle.std.proofs.lemmas.List.{take_more}
use Rattle.program_parts.proofs.Writing.{writes_one_more}
use Rattle.program_parts.specs.Rows.{Row}
use Rattle.program_parts.specs.Written.{Writes}
use Rattle.index_reader.proofs.answers.write_rows.Goals as goal

pub loop-row-preserved : goal.loop-row-preserved
loop-row-preserved g c =
    let rows = c.args.rows.now in
    let i = c.loop-row.row-index in
    let row : Row = c.row-item.result in
    let contents = g.W.Write.contents in
    let next = take_more rows i row c.loop-row-test.true ∙ ap (λ r. take i rows ++ r ∷ []) (sym c.row-item.is) in
    let is = ap (map (λ text. text.now)) c.deref.ensures.value ∙ c.in_ok-push_rest.ensures
    ∙ ap (λ l. map (λ text. text.now) l ++ row.rest) c.clear.ensures.items in
    writes_one_more contents _ c.loop-row.out c.write_row.new.out (λ row. row.rest) rows i row next c.loop-row.invariant
    (subst (λ fields. Writes contents c.loop-row.out c.write_row.new.out (fields ∷ [])) is c.in_ok-write_row.ensures)
