use Rattle.std.proofs.Common.{sym, ◌∙◌}
use Rattle.std.proofs.lemmas.List.Folds.{fold-map}
use Rattle.slice_group_simd.specs.Counted.{same_class}
use Rattle.slice_group_stream.specs.Streams.{with_part}
use Rattle.example_walks.proofs.tokens.add_block.Goals as goal

pub returns : goal.returns
returns c came kept e =
    let parts = c.class_parts-parts in
    let yielded = rw c.into_iter-begins-iterator.ensures.into_iter_gives at c.loop-begins.yielded_by in (
      rw kept at parts.ensures.kept ∙ sym (c.parts_join.ensures.kept came c.args.block.now),
      rw e at c.loop-begins.invariant ∙ sym (fold-map with_part _ _ c.loop-begins.yielded)
          ∙ c.parts_join.ensures.block same_class came c.args.block.now parts.result _ parts.ensures.computes parts.ensures.remainder
          (rw kept at parts.ensures.begins) (_, (_, yielded, c.in-None.ensures.steps)),
    )
