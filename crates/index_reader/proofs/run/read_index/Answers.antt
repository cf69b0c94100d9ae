use Rattle.std.proofs.Common.{◌∙◌, ap}
use Rattle.std.specs.List.{range_with_len}
use Rattle.index_reader.proofs.Read.{index_read}
use Rattle.index_reader.proofs.run.read_index.Goals as goal

pub returns-clause-index : goal.returns-clause-index
returns-clause-index g c =
    let new = c.new-index.ensures in
    let layout = c.in_ok-layout.ensures in
    index_read g.R.Read.remaining c.args.source.format (g.R.Read.remaining c.args.source.input) _ c.new-index.result c.read_all.new.self
    (rw new.records c.in_ok-records.ensures) (rw (new.records, new.layout, layout.key) c.in_ok-places.ensures)
    (rw (new.records, new.layout) (layout.rest ∙ ap (range_with_len 0) c.width.ensures)) new.no_row c.in_ok-read_all.ensures
