use Rattle.std.proofs.Common.{ap, ◌∙◌}
use Rattle.slice_group_by.specs.Split.{last, without_first, split}
use Rattle.slice_group_by.specs.End.TheVariants.{Front}
use Rattle.example_walks.proofs.equal_groups.outer_groups.Goals as goal

pub returns-clause-back : goal.returns-clause-back
returns-clause-back g c =
    let eq = g.T.PartialEq.eq in
    let laws = c.calls_take_pieces.ensures in
    let new = c.new-groups in
    let next = c.next-front in
    let back = c.next_back-back in
    let settled = laws.settled eq Front new.result next.new.self next.result next.ensures.steps (new.ensures.settled tt) in
    let after = laws.others eq Front new.result next.new.self next.result next.ensures.steps (new.ensures.settled tt) in
    laws.back eq next.new.self back.new.self back.result back.ensures.steps settled
    ∙ ap last after ∙ ap (λ xs. last (without_first (split eq xs))) c.new-groups.ensures.remainder
