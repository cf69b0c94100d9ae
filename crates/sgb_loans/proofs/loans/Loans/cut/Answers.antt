use Rattle.std.proofs.Common.{length, ap, ◌∙◌, arith}
use Rattle.std.proofs.lemmas.List.{length-append}
use Rattle.sgb_loans.proofs.loans.Loans.cut.Goals as goal

pub returns-in-Back-clause-len : goal.returns-in-Back-clause-len
returns-in-Back-clause-len g c =
    let both = ap length c.cut_at-rest.ensures.parts.0 ∙ length-append c.cut_at-rest.result.0.now c.cut_at-rest.result.1.now in
    omega arith

pub returns-in-Back-clause-value : goal.returns-in-Back-clause-value
returns-in-Back-clause-value g c = rw c.in-Back.is c.cut_at-rest.ensures.parts.0
