use Rattle.std.proofs.Common.{◌^◌, sym, ap, ◌∙◌, arith, rules}
use Rattle.slice_group_stream.specs.Streams.{last_after}
use Rattle.example_counts.proofs.counts.with_questions.Goals as goal

pub returns : goal.returns
returns c came kept so_far =
    let parts = c.parts_by-parts in
    let yielded = rw c.into_iter-iterator.ensures.into_iter_gives at c.loop.yielded_by in
    let k =
    c.streams_count.ensures (λ j. j.predicate.0) 1 (2 ^ 64) (λ j k pair b h. search rules) came c.args.block.now _ _ parts.result _ _
    (rw kept at parts.ensures.asks.run) parts.ensures.remainder yielded c.in-None.ensures.steps.0.0
    (λ fits. omega (arith, so_far (omega (arith, fits)))) in (
      parts.ensures.kept ∙ ap (λ o. last_after o c.args.block.now) kept ∙ sym (c.parts_join.ensures.kept came c.args.block.now),
      λ fits. search (rules, k.0, k.1 (omega (arith, fits))),
    )
