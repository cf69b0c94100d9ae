use Rattle.std.proofs.Common.{ℕ, not, sym, ap, ◌∙◌}
use Rattle.std.proofs.lemmas.Bool.{cond-true, cond-false}
use Rattle.sgb_numbers.proofs.Pairs.{differs_at}
use Rattle.slice_group_simd.proofs.fills.cut.Goals as goal

pub returns-then-same : goal.returns-then-same
returns-then-same g c =
    let d = differs_at g.M.Masks.same c.args.slice.now c.args.at _ _ c.requires c.index-slice-at.is c.index-slice-at-2.is in
    sym (cond-false {A = ℕ} _ 1 0 (d ∙ ap not (sym c.same.ensures ∙ c.if-same.true)))

pub returns-else-same : goal.returns-else-same
returns-else-same g c =
    let d = differs_at g.M.Masks.same c.args.slice.now c.args.at _ _ c.requires c.index-slice-at.is c.index-slice-at-2.is in
    sym (cond-true {A = ℕ} _ 1 0 (d ∙ ap not (sym c.same.ensures ∙ c.if-same.false)))
