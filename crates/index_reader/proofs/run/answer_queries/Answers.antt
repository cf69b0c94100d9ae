use Rattle.std.proofs.Common.{◌∙◌, ap}
use Rattle.std.specs.List.{range_with_len}
use Rattle.index_reader.proofs.Answered.{all_answered, more_answered, none_answered}
use Rattle.index_reader.proofs.run.answer_queries.Goals as goal

pub loop-init : goal.loop-init
loop-init g c =
    let new = c.new-queries.ensures in
    let source = c.args.source in
    none_answered g.R.Read.remaining g.W.Write.contents source.format (g.R.Read.remaining source.input) c.args.rows.now _
    c.new-queries.result (rw new.records c.in_ok-records.ensures)
    (rw (new.records, new.layout) (c.in_ok-layout.ensures.key ∙ ap (range_with_len 0) c.width.ensures))

pub loop-preserved : goal.loop-preserved
loop-preserved g c =
    let source = c.args.source in
    more_answered g.R.Read.remaining g.W.Write.contents source.format (g.R.Read.remaining source.input) c.args.rows.now _
    c.loop.queries c.read_block.new.self c.clear.new.self c.loop.out c.answer_block.new.out c.pass_on.new.out c.loop.invariant
    c.clear.ensures.items c.in_ok-read_block.ensures (rw c.deref.ensures.value at c.in_ok-answer_block.ensures)
    c.in_ok-pass_on.ensures.writes

pub returns-then-queries-clause-answers : goal.returns-then-queries-clause-answers
returns-then-queries-clause-answers g c =
    let source = c.args.source in
    let s = more_answered g.R.Read.remaining g.W.Write.contents source.format (g.R.Read.remaining source.input) c.args.rows.now _
    c.loop.queries c.read_block.new.self c.clear.new.self c.loop.out c.answer_block.new.out c.pass_on.new.out c.loop.invariant
    c.clear.ensures.items c.in_ok-read_block.ensures (rw c.deref.ensures.value at c.in_ok-answer_block.ensures)
    c.in_ok-pass_on.ensures.writes in
    all_answered g.R.Read.remaining g.W.Write.contents source.format (g.R.Read.remaining source.input) c.args.rows.now _
    c.pass_on.new.out c.read_block.new.self c.in_ok-finish.field-0 s (c.in_ok-read_block.ensures.stays.end c.if-queries.true)
    c.in_ok-finish.ensures
