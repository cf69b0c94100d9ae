use Rattle.std.proofs.Common.{rules, ap, length}
use Rattle.slice_group_by.specs.Calls.{Place}
use Rattle.slice_group_by.specs.End.TheVariants.{Front}
use Rattle.slice_group_by.proofs.Queues.Greatest.{greatest_from_max_by_key}
use Rattle.example_walks.proofs.folds.longest_with_row.Goals as goal

pub returns : goal.returns
returns g c =
    let groups = c.with_offsets-groups in
    let pieces = c.sees_pieces.ensures.pieces g.T.PartialEq.eq Front groups.result (rw groups.ensures (c.new.ensures.settled tt)) in
    rw (groups.ensures, ap (λ (p : Place g.row.T.Denot). p.offset) c.new.ensures.place, c.new.ensures.remainder)
    at (greatest_from_max_by_key _ _ (λ found. length found.1) _ (λ x n h k. search rules) _ c.max_by_key.ensures.ran
    (c.groups_stand.ensures.yields groups.result _ pieces))
