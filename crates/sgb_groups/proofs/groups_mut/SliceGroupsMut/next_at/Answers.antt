use Rattle.std.proofs.Common.{List, Some, ap, refl, arith}
use Rattle.std.proofs.lemmas.Grind.{common_steps}
use Rattle.std.specs.Borrow.{MutBor}
use Rattle.sgb_groups.proofs.CutsMut.{callable_taken}
use Rattle.sgb_groups.proofs.Parts.{range_all}
use Rattle.sgb_groups.proofs.groups_mut.SliceGroupsMut.next_at.Goals as goal

pub group_len-len-requires-clause-callable : goal.group_len-len-requires-clause-callable
group_len-len-requires-clause-callable g c =
    rw (range_all c.take-all.result.now _ refl)
    (callable_taken g.J.Judge (g.W.Way.allowed _) _ _ _ (ap (λ (b : MutBor (List g.row.T.Denot)). b.now) c.take-all.ensures.value)
    c.self.view_is c.requires)

pub returns-clause-gives : goal.returns-clause-gives
returns-clause-gives g c = (grind (arith, common_steps), rw (← c.self.view_is) c.cut-group.ensures.out)

pub returns-clause-callable : goal.returns-clause-callable
returns-clause-callable g c = g.W.Way.keeps _ _ g.J.Judge _ _ (Some c.cut-group.result.0.now) _ (returns-clause-gives g c).0 c.requires
