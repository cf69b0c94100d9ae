-- What is known of the parts that are out holds no element.
use denote.RattleType.{RattleType}
use denote.Param.Send.{IsSync, part_keyless}
use Rattle.sgb_loans.specs.contracts.loans.Loans.{the_row}
use Rattle.sgb_loans.proofs.loans.Loans.TheSendSync.Send.{send}

pub sync : (T : RattleType) → IsSync (the_row T)
sync T = record { shared = λ l b o κ q. part_keyless (the_row T) (send T) q l b o }
