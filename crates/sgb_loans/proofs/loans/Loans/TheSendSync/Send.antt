-- What is known of the parts that are out holds no element.
use Rattle.std.proofs.Common.{List, [], ◌∷◌}
use base.Fml.{GName}
use base.Shift.{Keyless}
use denote.RattleType.{RattleType}
use denote.Param.Send.{IsSend, owning_send, sendable}
use Rattle.sgb_split.specs.declared.end.End.{End}
use Rattle.sgb_loans.specs.Loans.{loan_owns, before_with, after_with}
use Rattle.sgb_loans.specs.contracts.loans.Loans.{the_row, the_type}

keyless : (T : RattleType) (γ : GName) (before after : List T.Denot) (cuts : List (End × GName)) (δ : GName)
    → Keyless (loan_owns T γ before after cuts δ)
keyless T γ before after [] δ = λ w. (tt, tt)
keyless T γ before after (c ∷ cuts) δ = λ xs. (tt, keyless T γ (before_with c.0 before xs) (after_with c.0 xs after) cuts δ)

pub send : (T : RattleType) → IsSend (the_row T)
send T = owning_send (the_type T) (search sendable, tt) (λ l. keyless T l.root l.before l.after l.cuts l.rest) (λ k x w. tt)
