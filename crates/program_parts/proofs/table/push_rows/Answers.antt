use Rattle.std.proofs.Common.{◌≡◌, length, arith}
use Rattle.csv.specs.Records.{fields_of}
use Rattle.program_parts.proofs.TablesRead.{all_cut, none_cut, one_cut, row_inside}
use Rattle.program_parts.proofs.table.push_rows.Goals as goal

pub loop-number-init : goal.loop-number-init
loop-number-init c records holds len = none_cut c.args.layout.now c.args.block.now.value records holds c.args.rows.now.items

pub new-requires : goal.new-requires
new-requires c =
    let (records, holds, len) = c.requires in
    let so = c.loop-number.invariant records holds len in
    rw c.in_ok-clone.ensures.cases (row_inside c.args.layout.now c.args.block.now.value records holds c.args.rows.now.items
    c.loop-number.number-index c.loop-number.at c.loop-number.rows.items so (omega (arith, len, c.loop-number-test.true)))

pub overflow_add-at-in-loop-number : goal.overflow_add-at-in-loop-number
overflow_add-at-in-loop-number c =
    let (records, holds, len) = c.requires in
    let so = c.loop-number.invariant records holds len in
    let inside = row_inside c.args.layout.now c.args.block.now.value records holds c.args.rows.now.items
    c.loop-number.number-index c.loop-number.at c.loop-number.rows.items so (omega (arith, len, c.loop-number-test.true)) in
    let count : c.len-count.result ≡ length (fields_of c.args.block.now.value.fields) = rw c.deref.ensures at c.len-count.ensures in
    rw (c.deref-in-loop-number.ensures, c.deref-in-loop-number-2.ensures) (omega (arith, inside, count))

pub loop-number-preserved : goal.loop-number-preserved
loop-number-preserved c records holds len =
    let so = c.loop-number.invariant records holds len in
    rw (c.deref-in-loop-number.ensures, c.deref-in-loop-number-2.ensures)
    (one_cut c.args.layout.now c.args.block.now.value records holds c.args.rows.now.items c.loop-number.number-index c.loop-number.at
    c.loop-number.rows.items so (omega (arith, len, c.loop-number-test.true)) c.new.result _
    (rw c.in_ok-clone.ensures.cases at c.new.ensures) c.in_ok-push.ensures.items)

pub returns : goal.returns
returns c records holds len =
    all_cut c.args.layout.now c.args.block.now.value records holds c.args.rows.now.items c.loop-number.number-index c.loop-number.at _
    (c.loop-number.invariant records holds len) (omega (arith, len, c.loop-number-test.false))
