use Rattle.std.proofs.Common.{◌∷◌, [], append-nil, refl}
use Rattle.program_parts.proofs.RecordsGiven.{more_said, none_more_said}
use Rattle.grouped_report.specs.Input.{row_in}
use Rattle.grouped_report.proofs.reading.next_row.Goals as goal

pub returns-then-not-is_row-clause-said : goal.returns-then-not-is_row-clause-said
returns-then-not-is_row-clause-said g c format input said s =
    let next = c.in_ok-is_row.ensures in
    let given = rw (c.in-Some.is, c.if-not-is_row.true) at (next.given _ s.rows s.given) in
    more_said (row_in c.args.places.now) g.R.Read.remaining format input said c.args.records.now c.next.new.self [] s given
    next.none_left_out next.width [] refl refl

pub returns-in_default-2-clause-said : goal.returns-in_default-2-clause-said
returns-in_default-2-clause-said g c format input said s =
    let next = c.in_ok-is_row.ensures in
    let given = rw (c.in-Some.is, c.if-not-is_row.false) at (next.given _ s.rows s.given) in
    let says = rw (c.in_default-2.is, c.row.ensures) at c.in_ok-wrong.ensures.says in
    more_said (row_in c.args.places.now) g.R.Read.remaining format input said c.args.records.now c.next.new.self _ s given
    next.none_left_out next.width (c.read_row.new.row ∷ []) (rw says refl) refl

pub returns-clause-said : goal.returns-clause-said
returns-clause-said g c format input said s =
    let next = c.in_ok-is_row.ensures in
    let out = c.leave_out.ensures in
    let given = rw (c.in-Some.is, c.if-not-is_row.false) at (next.given _ s.rows s.given) in
    let silent = rw (c.in-Some-2.is, c.row.ensures) at c.in_ok-wrong.ensures.silent in
    rw append-nil (none_more_said (row_in c.args.places.now) g.R.Read.remaining format input said c.args.records.now c.next.new.self _ s
    given next.none_left_out next.width c.leave_out.new.self (rw silent refl) out.left out.width out.count)
