use Rattle.std.proofs.Common.{List, ℕ, Some, refl}
use Rattle.sgb_linear_str_group.proofs.Cuts.{front_cut, moved_on, back_cut}
use Rattle.sgb_linear_str_group.proofs.Queue.{keeps}
use Rattle.sgb_linear_str_group.specs.Texts.{TextGroups}
use Rattle.sgb_linear_str_group.proofs.text_groups.LinearStrGroups.next_at.Goals as goal
use Rattle.sgb_linear_str_group.proofs.text_groups.LinearStrGroups.next_at.Goals.{in-Front, in-Back}

pub returns-clause-gives : goal.returns-clause-gives
returns-clause-gives g c =
    elim c.match-end.branch [
      | in-Front w ↦
          rw (w.in-Front.is, w.self-is) (record {
            call = front_cut g.J.Judge _ _ _ _ c.part-rest.ensures.value _ _ _ _ (rw w.in-Front.is at c.in_ok-group.ensures);
            place = moved_on g.J.Judge _ _ _ _ c.part-rest.ensures.value _ _ _ _ (rw w.in-Front.is at c.in_ok-group.ensures);
          })
      | in-Back w ↦
          rw (w.in-Back.is, w.self-is) (record {
            call = back_cut g.J.Judge _ _ _ _ c.part-rest.ensures.value _ _ _ _ (rw w.in-Back.is at c.in_ok-group.ensures);
            place = refl;
          })
    ]

pub returns-clause-callable : goal.returns-clause-callable
returns-clause-callable g c =
    keeps g.J.Judge _ (λ (s : TextGroups _). s) (λ (x : List ℕ). x) _ (Some _) _ (returns-clause-gives g c).call c.requires
