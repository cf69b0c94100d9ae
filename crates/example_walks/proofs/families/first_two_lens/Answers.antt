use Rattle.std.proofs.Common.{◌∙◌, ap, drop, length, subst, sym}
use Rattle.std.proofs.Math.Seq.{drop-append_seam}
use Rattle.slice_group_by.specs.End.TheVariants.{Front}
use Rattle.slice_group_by.specs.Searching.{IsLocalEnd}
use Rattle.example_walks.proofs.families.first_two_lens.Goals as goal

pub returns-in_default-next-clause-first : goal.returns-in_default-next-clause-first
returns-in_default-next-clause-first g c some =
    rw c.new-groups.ensures.remainder at
    (c.groups_end_locally.ensures.ends g.T.PartialEq.eq Front c.new-groups.result c.next.new.self c.in-Some.first
    c.new-groups.ensures.computes c.in-Some.ensures.steps)

pub returns-clause-first : goal.returns-clause-first
returns-clause-first g c some =
    rw c.new-groups.ensures.remainder at
    (c.groups_end_locally.ensures.ends g.T.PartialEq.eq Front c.new-groups.result c.next.new.self c.in-Some.first
    c.new-groups.ensures.computes c.in-Some.ensures.steps)

pub returns-clause-second : goal.returns-clause-second
returns-clause-second g c more =
    let laws = c.groups_end_locally.ensures in
    let eq = g.T.PartialEq.eq in
    let first = c.in-Some.first in
    let second = c.in-Some-next.second in
    let steps = c.in-Some.ensures.steps in
    let rest = ap (drop (length first.now)) (rw c.new-groups.ensures.remainder at steps.call.cut) ∙ drop-append_seam first.now _ in
    let still = laws.computes eq Front c.new-groups.result c.next.new.self first c.new-groups.ensures.computes steps in
    subst (λ l. IsLocalEnd l eq (length second.now)) (sym rest)
    (laws.ends eq Front c.next.new.self c.next-2.new.self second still c.in-Some-next.ensures.steps)
