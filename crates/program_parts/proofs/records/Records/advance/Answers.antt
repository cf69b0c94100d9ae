use Rattle.std.proofs.Common.{Bool, true, false, Option, Some, [], List, if◌then◌else◌, not}
use Rattle.program_parts.specs.Records.{Record, Gives}
use Rattle.program_parts.proofs.RecordsLeft.{next_read}
use Rattle.program_parts.proofs.records.Records.advance.Goals as goal

-- the end is noted
by_found : (old new : Option (List Record)) (found : Bool) (given : List Record) → Gives old (if found then new else Some []) given
    → Gives old (if not found then Some [] else new) given
by_found old new true given gives = gives
by_found old new false given gives = gives

pub returns-in-Ok-clause-next : goal.returns-in-Ok-clause-next
returns-in-Ok-clause-next g c =
    let one = next_read g.R.Read.remaining c.args.self.now.reader c.read_byte_record.new.self c.in-Ok.found _ c.in-Ok.ensures.reads
    c.in-Ok.ensures.ready in
    rw (c.if-self.false, c.if-self-2.false) (by_found _ _ c.in-Ok.found _ one)
