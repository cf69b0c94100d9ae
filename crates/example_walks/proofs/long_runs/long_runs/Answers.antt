use Rattle.std.proofs.Common.{refl, ◌∙◌, nat_eq}
use Rattle.std.proofs.lemmas.List.{take_all}
use Rattle.example_walks.specs.LongRuns.{long, run}
use Rattle.example_walks.proofs.long_runs.long_runs.Goals as goal

pub returns : goal.returns
returns c =
    let all = take_all c.loop-block.block-index c.args.blocks.now c.loop-block-test.false in
    c.in_ok-close.ensures ∙ c.groups_close.ensures.all nat_eq run (long c.args.least) _ _ _ _ refl (rw all at c.loop-block.invariant)
