use Rattle.program_parts.proofs.TablesRead.{both_read, none_read}
use Rattle.program_parts.proofs.table.Table.read_all.Goals as goal

pub loop-init : goal.loop-init
loop-init g c = none_read g.R.Read.remaining c.args.self.now c.requires

pub loop-preserved : goal.loop-preserved
loop-preserved g c =
    both_read g.R.Read.remaining c.args.self.now c.loop.self c.read_block.new.self c.loop.invariant c.in_ok-read_block.ensures

pub returns-then-self : goal.returns-then-self
returns-then-self g c =
    let so = both_read g.R.Read.remaining c.args.self.now c.loop.self c.read_block.new.self c.loop.invariant c.in_ok-read_block.ensures in
    record {
      stays = record { layout = so.stays.layout; width = so.stays.width; names = so.stays.names; end = so.stays.end };
      is_last = c.if-self.true;
      rows = c.read_block.new.self.rows.items;
      sorted = c.in_ok-sort_rows.ensures;
      reads =
          λ all h.
          let read = rw (← so.behind) at (so.reads all c.args.self.now.rows.items h) in
          record { records = read.records; given = read.given; rows_are = read.rows_are };
    }
