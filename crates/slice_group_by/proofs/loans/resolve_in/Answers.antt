use Rattle.std.proofs.Common.{ap, sym, ◌∙◌, length}
use Rattle.slice_group_by.proofs.loans.resolve_in.Goals as goal

pub returns-clause-ends : goal.returns-clause-ends
returns-clause-ends g c =
    let e = c.resolve.ensures.ends in
    let ended = ap (g.S.AsMutSlice.with_elements c.args.holder.now) {x = c.resolve.new.slice} e.4 in
    (e.0, e.1, e.2 ∙ c.as_mut_slice.ensures.elements, e.3, ended)

pub returns-clause-elements : goal.returns-clause-elements
unfolding returns-clause-ends
returns-clause-elements g c holds =
    let e = returns-clause-ends g c in
    let long = ap length {y = c.resolve.new.slice} (sym c.resolve.ensures.ends.4) ∙ c.resolve.ensures.len
    ∙ ap length c.as_mut_slice.ensures.elements in
    (e.0, e.1, e.2, e.3, ap g.S.AsMutSlice.elements e.4 ∙ holds e.1.value long)
