use Rattle.std.proofs.Common.{◌≡◌, [], map, take}
use Rattle.std.specs.List.{AllZip}
use Rattle.csv.specs.Records.{fields_of, partial_of}
use Rattle.table_join.specs.Headers.{IsNamed}
use Rattle.table_join.proofs.header.unique_names.Given as goal

abbrev pub invariant-loop-name : goal.invariant-loop-name
invariant-loop-name l =
    AllZip IsNamed (map (λ name. name.now) (take l.name-index l.names)) (fields_of l.header) × (partial_of l.header ≡ [])
