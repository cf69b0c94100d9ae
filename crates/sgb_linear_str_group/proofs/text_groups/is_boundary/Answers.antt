use Rattle.std.proofs.Common.{subst, arith}
use Rattle.std.specs.Str.{IsCharBoundary}
use Rattle.std.proofs.lemmas.Str.{IsCharBoundary-start}
use Rattle.std.proofs.lemmas.Bool.{eq-eqb}
use Rattle.sgb_linear_str_group.proofs.text_groups.is_boundary.Goals as goal

pub returns-then-place-eq0 : goal.returns-then-place-eq0
returns-then-place-eq0 c =
    let text = c.args.text.now in
    (λ _. subst (IsCharBoundary text) {x = 0} (omega arith) (IsCharBoundary-start text c.utf8.text), λ _. eq-eqb _ _ (omega arith))
