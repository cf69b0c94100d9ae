use Rattle.std.proofs.Math.Logic.{⊎_map}
use Rattle.std.proofs.lemmas.Map.Lookups.{exact_unsigned}
use Rattle.std.proofs.lemmas.Result.{IfOk-weaker}
use Rattle.example_joins.proofs.sets.symmetric_difference.Goals as goal

pub returns-clause-all : goal.returns-clause-all
returns-clause-all c =
    let alone = c.sets_ascend.ensures.without exact_unsigned in
    IfOk-weaker c.union.result _ _
    (λ v all x.
    let either = rw (c.deref.ensures.value, c.deref-2.ensures.value, c.in_ok-left_alone.ensures, c.in_ok-right_alone.ensures) at (all x) in
    let left = alone c.args.left.now c.args.right.now x in
    let right = alone c.args.right.now c.args.left.now x in
    (λ at. ⊎_map left.0 right.0 (either.0 at), λ at. either.1 (⊎_map left.1 right.1 at)))
    c.union.ensures.all
