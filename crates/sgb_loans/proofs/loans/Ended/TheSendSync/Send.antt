-- A token of a slice that was given up holds no element.
use denote.RattleType.{RattleType}
use denote.Ref.{NamedLft}
use denote.Param.Send.{IsSend, owning_send, sendable}
use Rattle.sgb_loans.specs.contracts.loans.Ended.{the_row, the_type}

pub send : (a : NamedLft) (T : RattleType) → IsSend (the_row a T)
send a T = owning_send (the_type a T) (search sendable, tt) (λ d. tt) (λ k x w. tt)
