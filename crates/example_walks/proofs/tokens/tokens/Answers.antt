use Rattle.std.proofs.Common.{ℕ, ap}
use Rattle.std.proofs.lemmas.Iterator.Consumers.{map_from_collect}
use Rattle.slice_group_by.specs.Calls.{Place}
use Rattle.slice_group_simd.specs.Counted.{same_class}
use Rattle.slice_group_by.specs.End.TheVariants.{Front}
use Rattle.example_walks.proofs.tokens.tokens.Goals as goal

pub returns : goal.returns
returns c =
    let tokens = c.with_offsets-tokens in
    let pieces = c.sees_pieces.ensures.pieces same_class Front tokens.result (rw tokens.ensures c.new.ensures.settled) in
    rw (tokens.ensures, c.new.ensures.remainder, ap (λ (p : Place ℕ). p.offset) c.new.ensures.place)
    at (map_from_collect c.collect.result c.collect.ensures.ran (c.groups_stand.ensures.yields tokens.result _ pieces))
