use Rattle.std.proofs.Common.{nat_eq, rules}
use Rattle.std.proofs.lemmas.Fn.{always_returns_same}
use Rattle.std.proofs.lemmas.Iterator.Consumers.{count_from_yields_List}
use Rattle.std.specs.Slice.Iter.{chunk_by_steps}
use Rattle.slice_group_by.specs.End.TheVariants.{Front}
use Rattle.example_counts.proofs.pieces.groups_and_chunks.Goals as goal

pub returns-clause-groups : goal.returns-clause-groups
returns-clause-groups c =
    let groups = c.sees_pieces.ensures.pieces nat_eq Front c.new-groups.result (c.new-groups.ensures.settled tt) in
    rw c.new-groups.ensures.remainder at (count_from_yields_List _ _ c.count.ensures.ran groups)

pub returns-clause-chunks : goal.returns-clause-chunks
returns-clause-chunks c =
    let chunks = c.chunk_by_agrees.ensures nat_eq Front c.chunk_by-chunks.result
    (always_returns_same _ _ _ (λ a r f' k. search rules)) in
    rw c.chunk_by-chunks.ensures.rest at (count_from_yields_List {steps = chunk_by_steps _} _ _ c.count-2.ensures.ran chunks)
