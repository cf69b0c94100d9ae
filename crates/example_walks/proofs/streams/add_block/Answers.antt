use Rattle.std.proofs.Common.{◌≡◌, ◌≢◌, ℕ, List, [], ◌++◌, sym, ap, ◌∙◌, arith}
use Rattle.std.proofs.lemmas.List.{length-append}
use Rattle.example_walks.specs.Runs.{longer_run, run_of}
use Rattle.example_walks.proofs.streams.add_block.Goals as goal

adds : {T : Type 0} (x : T) (others part : List T) → part ≢ [] → longer_run (run_of x others) part ≡ run_of x (others ++ part)
adds x others part some = ap (λ (n : ℕ). (x, n)) (omega (arith, length-append others part))

pub returns : goal.returns
returns g c came kept e =
    let parts = c.parts-parts in
    let yielded = rw c.into_iter-begins-iterator.ensures.into_iter_gives at c.loop-begins.yielded_by in (
      rw kept at parts.ensures.kept ∙ sym (c.parts_join.ensures.kept came c.args.block.now),
      c.loop-begins.invariant
          ∙ c.parts_fold.ensures.nonempty run_of longer_run adds g.T.PartialEq.eq came c.args.block.now _ parts.result _ e
          parts.ensures.computes parts.ensures.remainder (rw kept at parts.ensures.begins) (_, (_, yielded, c.in-None.ensures.steps)),
    )
