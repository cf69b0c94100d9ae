use Rattle.std.proofs.Common.{ℕ, nat_eq, ap}
use Rattle.std.proofs.lemmas.Iterator.Consumers.{map_from_collect}
use Rattle.slice_group_by.specs.Calls.{Place}
use Rattle.slice_group_by.specs.End.TheVariants.{Front}
use Rattle.example_walks.proofs.offsets.runs_with_rows.Goals as goal

pub returns : goal.returns
returns c =
    let runs = c.with_offsets-runs in
    let pieces = c.sees_pieces.ensures.pieces nat_eq Front runs.result (rw runs.ensures (c.new.ensures.settled tt)) in
    rw (runs.ensures, ap (λ (p : Place ℕ). p.offset) c.new.ensures.place, c.new.ensures.remainder)
    at (map_from_collect c.collect.result c.collect.ensures.ran (c.groups_stand.ensures.yields runs.result _ pieces))
