-- The records that the rows of a table are.
use Rattle.std.proofs.Common.{◌≡◌, ◌≢◌, ℕ, zero, suc, ◌+◌, Bool, true, false, cond, List, [], ◌∷◌, length, map, Option, None, Some, IfSome}
use Rattle.std.proofs.Common.{refl, sym, ap, ◌∙◌, arith}
use Rattle.std.specs.Prelude.{All}
use Rattle.std.specs.List.{filter, range_with_len}
use Rattle.std.proofs.lemmas.Bool.Decides.{nat_tests}
use Rattle.std.proofs.lemmas.List.Elements.{All-filter, All-head, All-tail, All-weaker, filter_passes}
use Rattle.std.proofs.lemmas.Simd.{map-map}
use Rattle.csv.specs.Records.{field_at}
use Rattle.program_parts.proofs.RecordsGiven.{all_given, none_given}
use Rattle.program_parts.specs.Columns.{AreKeyPlaces, IsPlace}
use Rattle.program_parts.specs.Records.{Record, field, has_width, rows_of, whole_rows, width_in}
use Rattle.program_parts.specs.RecordsLeft.{IsColumnOf, IsNew, count_of, left_of, width_of}
use Rattle.program_parts.specs.Rows.{Row, row_at}
use Rattle.program_parts.specs.Tables.{HasRead, ReadsAll}
use Rattle.program_parts.specs.declared.layout.Layout.{Layout}
use Rattle.program_parts.specs.declared.records.Format.{Format}
use Rattle.program_parts.specs.declared.table.Table.{Table}
use Rattle.index_reader.proofs.Found.{sorted_alike}
use Rattle.index_reader.specs.Answers.{has_key, of_key}
use Rattle.index_reader.specs.Runs.{HasNoOther, IsIndex}

-- all fields of a record, one by one
next_places : (text : List ℕ) (fields : Record) (a b n : ℕ) → b ≡ a + 1
    → map (field (text ∷ fields)) (range_with_len b n) ≡ map (field fields) (range_with_len a n)
unfolding field_at
next_places text fields a b zero e = refl
next_places text fields a zero (suc n) e = absurd (omega (arith, e))
next_places text fields a (suc b) (suc n) e =
    let same : b ≡ a = omega (arith, e) in
    let rest = next_places text fields (a + 1) (suc b + 1) n (omega (arith, e)) in
    (λ i. field fields (same i) ∷ rest i)

all_fields : (fields : Record) → map (field fields) (range_with_len 0 (length fields)) ≡ fields
unfolding field_at
all_fields [] = refl
all_fields (text ∷ fields) = ap (λ l. text ∷ l) (next_places text fields 0 (0 + 1) (length fields) refl ∙ all_fields fields)

filter_mapped : {X Y : Type 0} (p : Y → Bool) (f : X → Y) (xs : List X) → filter p (map f xs) ≡ map f (filter (λ x. p (f x)) xs)
filter_mapped p f [] = refl
filter_mapped p f (x ∷ xs) =
    let kept = filter (λ x. p (f x)) xs in
    let so = filter_mapped p f xs in
    elim (p (f x)) as (λ b. cond b (f x ∷ filter p (map f xs)) (filter p (map f xs)) ≡ map f (cond b (x ∷ kept) kept)) [
      | true ↦ ap (λ l. f x ∷ l) so
      | false ↦ so
    ]

module _ (width : ℕ) where
  abbrev IsWhole : Record → Type 0
  IsWhole fields = map (field fields) (range_with_len 0 width) ≡ fields

  is_whole : (fields : Record) → has_width width fields ≡ true → IsWhole fields
  is_whole fields wide =
      let long : width ≡ length fields = grind (nat_tests, arith) in
      ap (λ n. map (field fields) (range_with_len 0 n)) long ∙ all_fields fields

  are_whole : (rows : List Record) → All IsWhole (filter (has_width width) rows)
  are_whole rows = All-weaker _ IsWhole is_whole (filter (has_width width) rows) (filter_passes (has_width width) rows)

  same_records : (rows : List Record) → All IsWhole rows → map (λ fields. map (field fields) (range_with_len 0 width)) rows ≡ rows
  same_records [] all = refl
  same_records (x ∷ xs) all =
      ap (λ l. l ∷ map (λ fields. map (field fields) (range_with_len 0 width)) xs) (All-head IsWhole x xs all)
      ∙ ap (λ l. x ∷ l) (same_records xs (All-tail IsWhole x xs all))

  module _ (layout : Layout) (rows : List Record) where
    -- where the rest of a row is its record, the rows of a key are the records that have it
    found_whole : layout.rest.items ≡ range_with_len 0 width → (key : Record)
        → map (λ row. row.rest) (of_key key (map (row_at layout) (filter (has_width width) rows)))
        ≡ filter (has_key layout.key.items key) (filter (has_width width) rows)
    found_whole all key =
        let wide = filter (has_width width) rows in
        ap (map (λ row. row.rest)) (filter_mapped _ (row_at layout) wide) ∙ map-map (λ row. row.rest) (row_at layout) _
        ∙ ap (λ places. map (λ fields. map (field fields) places) (filter (has_key layout.key.items key) wide)) all
        ∙ same_records (filter (has_key layout.key.items key) wide) (All-filter _ IsWhole wide (are_whole rows))

    -- where the key is, the keys are the records
    pub keys_whole : layout.key.items ≡ range_with_len 0 width
        → map (λ row. row.key) (map (row_at layout) (filter (has_width width) rows)) ≡ filter (has_width width) rows
    keys_whole all =
        map-map (λ row. row.key) (row_at layout) _
        ∙ ap (λ places. map (λ fields. map (field fields) places) (filter (has_width width) rows)) all
        ∙ same_records (filter (has_width width) rows) (are_whole rows)

-- all rows are read
pub all_read : {R : Type 0} (remaining : R → Option (List ℕ)) (format : Format) (bytes : List ℕ) (rows : List Row) (table : Table R)
    → HasRead remaining (Some (rows_of format bytes)) rows table → width_of table.records ≡ width_in format bytes
    → left_of remaining table.records ≡ Some []
    → (rows ≡ map (row_at table.layout) (whole_rows format bytes)) × (count_of table.records ≡ 0 → HasNoOther format bytes)
all_read remaining format bytes rows table read width end =
    let given = rw (width, end) at read.given in
    let all = all_given (width_in format bytes) (rows_of format bytes) read.records (count_of table.records) given in
    (read.rows_are ∙ ap (map (row_at table.layout)) all.0, λ none. sym all.0 ∙ all.1 none)

same_places : (width width' : ℕ) (names names' : Record) (columns : List (List ℕ)) (places : List ℕ) → width ≡ width' → names ≡ names'
    → AreKeyPlaces (λ column place. width ≢ 0 → IsPlace width names column place) columns places
    → AreKeyPlaces (λ column place. width' ≢ 0 → IsPlace width' names' column place) columns places
same_places width width' names names' columns places e f at = rw (e, f) at at

-- of an index
pub index_read : {R : Type 0} (remaining : R → Option (List ℕ)) (format : Format) (input : Option (List ℕ)) (columns : List (List ℕ))
    (old new : Table R) → IsNew remaining format input old.records → AreKeyPlaces (IsColumnOf old.records) columns old.layout.key.items
    → old.layout.rest.items ≡ range_with_len 0 (width_of old.records) → old.rows.items ≡ [] → ReadsAll remaining old new
    → IfSome input (λ bytes. IsIndex format bytes columns new)
index_read remaining format None columns old new fresh at rest none reads = tt
index_read remaining format (Some bytes) columns old new fresh at rest none reads =
    let start : HasRead remaining (Some (rows_of format bytes)) old.rows.items old =
    record { records = []; given = none_given remaining format (Some bytes) old.records fresh; rows_are = none } in
    let stays = reads.stays in
    let width = stays.width ∙ fresh.width in
    let all = all_read remaining format bytes reads.rows new (reads.reads _ start) width (stays.end reads.is_last) in
    let rest' = ap (λ l. l.rest.items) stays.layout ∙ rest ∙ ap (range_with_len 0) fresh.width in
    record {
      key_at = rw stays.layout (same_places _ _ _ _ columns old.layout.key.items fresh.width fresh.names at);
      names = stays.names ∙ fresh.names;
      found = λ key. ap (map (λ row. row.rest)) (sorted_alike key reads.rows new.rows.items reads.sorted ∙ ap (of_key key) all.0)
          ∙ found_whole (width_in format bytes) new.layout (rows_of format bytes) rest' key;
      whole = all.1;
    }
