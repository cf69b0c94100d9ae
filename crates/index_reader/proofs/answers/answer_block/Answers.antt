use Rattle.std.proofs.Common.{◌∷◌, ◌++◌, [], List, flat_map, map, take, sym, ap, ◌∙◌, subst, arith}
use Rattle.std.proofs.lemmas.List.{take_all, take_more}
use Rattle.std.proofs.lemmas.List.Folds.{flat_map-map}
use Rattle.program_parts.proofs.Writing.{writes_more}
use Rattle.program_parts.specs.Records.{Record}
use Rattle.program_parts.specs.Rows.{Row}
use Rattle.program_parts.specs.Written.{Writes}
use Rattle.index_reader.specs.Answers.{of_key}
use Rattle.index_reader.proofs.answers.answer_block.Goals as goal

pub loop-query-preserved : goal.loop-query-preserved
loop-query-preserved g c =
    let rows = c.args.rows.now in
    let queries = c.args.queries.now in
    let i = c.loop-query.query-index in
    let query : Row = c.query-item.result in
    let contents = g.W.Write.contents in
    let next = take_more queries i query c.loop-query-test.true ∙ ap (λ q. take i queries ++ q ∷ []) (sym c.query-item.is) in
    let found = ap (map (λ row. row.rest)) c.rows_of_key.ensures in
    writes_more contents _ c.loop-query.out c.write_rows.new.out (λ query. map (λ row. row.rest) (of_key query.key rows)) queries i query
    next c.loop-query.invariant (subst (Writes contents c.loop-query.out c.write_rows.new.out) found c.in_ok-write_rows.ensures)

pub returns : goal.returns
returns g c =
    let rows = c.args.rows.now in
    let queries = c.args.queries.now in
    let find : Record → List Record = λ key. map (λ row. row.rest) (of_key key rows) in
    let all = take_all c.loop-query.query-index queries (omega arith) in
    subst (Writes g.W.Write.contents c.args.out.now c.loop-query.out)
    (ap (flat_map (λ query. find query.key)) all ∙ sym (flat_map-map find (λ query. query.key) queries)) c.loop-query.invariant
