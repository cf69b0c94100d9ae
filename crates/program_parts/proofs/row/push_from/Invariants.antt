use Rattle.std.proofs.Common.{◌≡◌, ◌++◌, map, take, drop}
use Rattle.csv.specs.Records.{fields_of}
use Rattle.program_parts.proofs.row.push_from.Given as goal

abbrev pub invariant-loop-place : goal.invariant-loop-place
invariant-loop-place l =
    map (λ text. text.now) l.line.items
    ≡ map (λ text. text.now) l.initial.line.items ++ take l.place (take l.count (drop l.at (fields_of l.fields)))
