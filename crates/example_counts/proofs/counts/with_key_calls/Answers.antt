use Rattle.std.proofs.Common.{◌^◌, length, arith, rules}
use Rattle.std.proofs.lemmas.List.{length-append}
use Rattle.example_counts.proofs.counts.with_key_calls.Goals as goal

pub returns : goal.returns
returns c came so_far fits =
    let parts = c.parts_by_key-parts in
    let yielded = rw c.into_iter-iterator.ensures.into_iter_gives at c.loop.yielded_by in
    let k =
    c.streams_count_keys.ensures (λ f. f.0) 1 (2 ^ 64) (λ f g x key h. search rules) (length came) c.args.block.now _ _ _ _ parts.result _ _
    parts.ensures.asks parts.ensures.remainder yielded c.in-None.ensures.steps.0.0 (λ below. omega (arith, so_far (omega (arith, below)))) in
    let len = length-append came c.args.block.now in
    search (rules, k.0, len, k.1 (omega (arith, fits, len)))
