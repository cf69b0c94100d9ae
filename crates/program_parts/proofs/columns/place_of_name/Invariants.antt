use Rattle.csv.specs.Records.{fields_of}
use Rattle.program_parts.proofs.NamesFound.{Found}
use Rattle.program_parts.proofs.columns.place_of_name.Given as goal

abbrev pub invariant-loop-i : goal.invariant-loop-i
invariant-loop-i l = Found (fields_of l.names) l.name l.i l.found
