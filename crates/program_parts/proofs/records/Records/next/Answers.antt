use Rattle.std.proofs.Common.{◌∙◌, append-nil, sym}
use Rattle.csv.specs.Records.{fields_of}
use Rattle.program_parts.proofs.RecordsGiven.{none_more, other_more, row_more}
use Rattle.program_parts.proofs.records.Records.next.Goals as goal

pub returns-then-not-branch-clause-given : goal.returns-then-not-branch-clause-given
returns-then-not-branch-clause-given g c all rows s =
    let gives = rw c.if-not-branch.true at c.in_ok-advance.ensures.next in
    rw (append-nil rows, c.advance.ensures.width) (none_more _ all _ _ rows _ _ s gives c.advance.ensures.none_left_out)

pub returns-then-len-self-clause-given : goal.returns-then-len-self-clause-given
returns-then-len-self-clause-given g c all rows s =
    let gives = rw c.if-not-branch.false at c.in_ok-advance.ensures.next in
    let len = sym c.len.ensures ∙ c.if-len-self.true ∙ c.advance.ensures.width in
    rw c.advance.ensures.width
    (row_more _ all _ _ rows _ _ s (fields_of c.advance.new.self.row) gives len c.advance.ensures.none_left_out)

pub returns-clause-given : goal.returns-clause-given
returns-clause-given g c all rows s =
    let gives = rw c.if-not-branch.false at c.in_ok-advance.ensures.next in
    let counts = rw c.advance.ensures.none_left_out at c.leave_out.ensures.count in
    rw (append-nil rows, c.leave_out.ensures.left, c.leave_out.ensures.width, c.advance.ensures.width)
    (other_more _ all _ _ rows _ _ s (fields_of c.advance.new.self.row) gives
    (λ len. c.if-len-self.false (c.len.ensures ∙ len ∙ sym c.advance.ensures.width)) counts)
