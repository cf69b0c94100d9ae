use Rattle.std.proofs.Common.{[], ◌∙◌, append-nil, refl}
use Rattle.program_parts.specs.RecordsLeft.{row_of}
use Rattle.program_parts.proofs.TablesRead.{read_more, read_none}
use Rattle.program_parts.proofs.table.read_fields.Goals as goal

pub loop-init : goal.loop-init
loop-init g c = (
  refl,
  refl,
  c.requires.no_byte,
  record {
    given = [];
    fields_are = c.requires.no_field;
    count = rw c.requires.no_number refl;
    gives = λ all records given. rw (append-nil records) given;
  },
)

pub loop-preserved : goal.loop-preserved
loop-preserved g c =
    let (width, names, none, so) = c.loop.invariant in
    let next = rw (c.in-Some.is, c.if-not-is_row.false) at c.in_ok-is_row.ensures.given in (
      c.next.ensures.width ∙ width,
      c.next.ensures.names ∙ names,
      c.in_ok-push_row.ensures.partial,
      read_more c.args.layout.now g.R.Read.remaining _ c.loop.records c.next.new.self (row_of c.next.new.self) _ _ c.loop.numbers.items _ _
          so next (rw c.row.ensures at c.in_ok-push_row.ensures.fields) c.in_ok-push.ensures,
    )

pub returns-then-is_full-clause-reads : goal.returns-then-is_full-clause-reads
returns-then-is_full-clause-reads g c =
    let next = rw (c.in-Some.is, c.if-not-is_row.false) at c.in_ok-is_row.ensures.given in
    read_more c.args.layout.now g.R.Read.remaining _ c.loop.records c.next.new.self (row_of c.next.new.self) _ _ c.loop.numbers.items _ _
    c.loop.invariant.3 next (rw c.row.ensures at c.in_ok-push_row.ensures.fields) c.in_ok-push.ensures

pub returns-in_default : goal.returns-in_default
returns-in_default g c =
    let (width, names, none, so) = c.loop.invariant in
    let next = rw c.in_default.is at c.in_ok-is_row.ensures.given in
    record {
      reads = read_none c.args.layout.now g.R.Read.remaining _ c.loop.records c.next.new.self _ c.loop.numbers.items so next;
      end = λ is. c.in_ok-is_row.ensures.end c.in_default.is;
      width = c.next.ensures.width ∙ width;
      names = c.next.ensures.names ∙ names;
    }

pub loop-preserved-then-not-is_row : goal.loop-preserved-then-not-is_row
loop-preserved-then-not-is_row g c =
    let (width, names, none, so) = c.loop.invariant in
    let next = rw (c.in-Some.is, c.if-not-is_row.true) at c.in_ok-is_row.ensures.given in (
      c.next.ensures.width ∙ width,
      c.next.ensures.names ∙ names,
      none,
      read_none c.args.layout.now g.R.Read.remaining _ c.loop.records c.next.new.self _ c.loop.numbers.items so next,
    )

pub returns-then-is_drained-clause-reads : goal.returns-then-is_drained-clause-reads
returns-then-is_drained-clause-reads g c =
    let next = rw (c.in-Some.is, c.if-not-is_row.true) at c.in_ok-is_row.ensures.given in
    read_none c.args.layout.now g.R.Read.remaining _ c.loop.records c.next.new.self _ c.loop.numbers.items c.loop.invariant.3 next
