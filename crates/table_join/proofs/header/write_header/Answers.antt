use Rattle.std.proofs.Common.{◌≡◌, ℕ, List, [], ◌∷◌, Bor, false, ◌==◌, length, map, refl}
use Rattle.std.specs.List.{AllZip}
use Rattle.csv.specs.Records.{fields_of}
use Rattle.program_parts.specs.Records.{Record}
use Rattle.table_join.proofs.RowsWritten.{on_ok_then}
use Rattle.table_join.specs.Headers.{AreHeader, IsNamed}
use Rattle.table_join.proofs.header.write_header.Goals as goal

header_is : (names : List (Bor (List ℕ))) (header : Record) → (length names == 0) ≡ false
    → AllZip IsNamed (map (λ name. name.now) names) header → AreHeader (map (λ name. name.now) names) (header ∷ [])
header_is [] header some named = cc
header_is (name ∷ names) header some named = (header, refl, named)

pub returns : goal.returns
returns g c =
    on_ok_then c.write_record.result
    (λ writes. (
      fields_of c.in_ok-header.header ∷ [],
      header_is c.args.names.now (fields_of c.in_ok-header.header) (rw c.is_empty.ensures at c.if-is_empty.false) c.in_ok-header.ensures,
      writes,
    )) c.write_record.ensures
