-- A judge by equality holds nothing.
use denote.Param.Send.{IsSync, part_keyless}
use Rattle.sgb_split.specs.contracts.judge.EqualityJudge.{the_row}
use Rattle.sgb_split.proofs.judge.EqualityJudge.TheSendSync.Send.{send}

pub sync : IsSync the_row
sync = record { shared = λ e b o κ q. part_keyless the_row send q e b o }
