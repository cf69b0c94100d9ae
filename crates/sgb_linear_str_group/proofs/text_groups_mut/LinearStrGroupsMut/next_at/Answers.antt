use Rattle.std.proofs.Common.{ℕ, List, Some, ap, ◌∙◌, arith}
use Rattle.std.proofs.lemmas.Grind.{common_steps}
use Rattle.std.specs.Borrow.{MutBor}
use Rattle.sgb_linear_str_group.specs.Texts.{TextGroups}
use Rattle.sgb_linear_str_group.specs.TextsMut.{text_groups_of_mut}
use Rattle.sgb_linear_str_group.proofs.Cuts.{callable_whole, cut_alike}
use Rattle.sgb_linear_str_group.proofs.Queue.{keeps}
use Rattle.sgb_linear_str_group.proofs.text_groups_mut.LinearStrGroupsMut.next_at.Goals as goal

pub split_group-requires : goal.split_group-requires
split_group-requires g c =
    callable_whole g.J.Judge _ _ _ (ap text_groups_of_mut c.self.view_is) _ _ c.text_of.ensures
    (ap (λ (b : MutBor (List ℕ)). b.now) c.take-all.ensures.value) c.requires

pub returns-clause-gives : goal.returns-clause-gives
returns-clause-gives g c =
    let given = cut_alike g.J.Judge c.args.end _ _ _ _ _ (rw c.unwrap.ensures at c.split_group.ensures) in
    let cut = c.cut-group.ensures in
    let at = given _ _ (c.text_of.ensures ∙ cut.value) cut.len in
    grind (arith, common_steps, at)

pub returns-clause-callable : goal.returns-clause-callable
returns-clause-callable g c =
    keeps g.J.Judge _ (λ (s : TextGroups _). s) (λ (x : List ℕ). x) _ (Some _) _ (returns-clause-gives g c).0 c.requires

pub invariant_of-self : goal.invariant_of-self
invariant_of-self g c =
    let given = cut_alike g.J.Judge c.args.end _ _ _ _ _ (rw c.unwrap.ensures at c.split_group.ensures) in
    let cut = c.cut-group.ensures in
    record { utf8 = (given _ _ (c.text_of.ensures ∙ cut.value) cut.len).rest_utf8; rest = cut.rest }
