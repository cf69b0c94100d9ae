use Rattle.std.proofs.Common.{nat_eq, ◌∙◌}
use Rattle.std.proofs.lemmas.Iterator.Consumers.{count_from_yields_List}
use Rattle.slice_group_by.specs.End.TheVariants.{Front}
use Rattle.example_counts.proofs.pieces.deduped_len.Goals as goal

pub returns : goal.returns
returns c =
    let seen = c.sees_pieces.ensures.pieces nat_eq Front c.new-groups.result (c.new-groups.ensures.settled tt) in
    rw c.new-groups.ensures.remainder at (count_from_yields_List _ _ c.count.ensures.ran seen)
    ∙ c.pieces_have_keys.ensures.count (λ x. x) c.args.xs.now
