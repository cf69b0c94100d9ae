use Rattle.std.proofs.Common.{arith, ◌≡◌, ◌≢◌, ◌++◌, List, ℕ, [], ◌∷◌, ap, refl, nat_eq, Some}
use Rattle.std.proofs.lemmas.List.{length-append}
use Rattle.example_walks.specs.LongRuns.{long, longer, run}
use Rattle.example_walks.proofs.long_runs.add_block.Goals as goal

adds : (group part : List ℕ) → group ≢ [] → part ≢ [] → longer (run group) part ≡ run (group ++ part)
adds [] part some more = absurd (some refl)
adds (x ∷ xs) part some more = ap (λ (n : ℕ). Some (x, n)) (omega (arith, length-append xs part))

pub returns : goal.returns
returns c came k =
    c.parts_close.ensures run longer (long c.args.least) refl adds nat_eq came c.args.block.now _ _ _ _ _ _ _ _ k c.loop-begins.invariant
    c.parts-parts.ensures.kept c.parts-parts.ensures.begins c.parts-parts.ensures.computes c.parts-parts.ensures.remainder
    (_, (_, (rw c.into_iter-begins-iterator.ensures.into_iter_gives at c.loop-begins.yielded_by), c.in-None.ensures.steps))
