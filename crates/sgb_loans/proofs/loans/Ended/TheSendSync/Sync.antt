-- A token of a slice that was given up holds no element.
use denote.RattleType.{RattleType}
use denote.Ref.{NamedLft}
use denote.Param.Send.{IsSync, part_keyless}
use Rattle.sgb_loans.specs.contracts.loans.Ended.{the_row}
use Rattle.sgb_loans.proofs.loans.Ended.TheSendSync.Send.{send}

pub sync : (a : NamedLft) (T : RattleType) → IsSync (the_row a T)
sync a T = record { shared = λ e b o κ q. part_keyless (the_row a T) (send a T) q e b o }
