-- The queries that are answered.
use Rattle.std.proofs.Common.{◌≡◌, ℕ, Bool, true, Global, List, [], ◌∷◌, ◌++◌, map, Option, None, Some, IfSome, option_map}
use Rattle.std.proofs.Common.{refl, sym, ap, ◌∙◌, subst, append-nil}
use Rattle.std.proofs.lemmas.Grind.{flat_map-append}
use Rattle.std.proofs.lemmas.List.{map-append}
use Rattle.std.specs.List.{filter, range_with_len}
use Rattle.std.specs.declared.vec.Vec.{Vec}
use Rattle.csv.specs.declared.writer.Writer.{Writer}
use Rattle.program_parts.proofs.RecordsGiven.{none_given}
use Rattle.program_parts.proofs.Writing.{writes_both, writes_none}
use Rattle.program_parts.specs.Records.{Record, rows_of, whole_rows, width_in}
use Rattle.program_parts.specs.RecordsLeft.{IsNew, count_of, left_of, names_of, width_of}
use Rattle.program_parts.specs.Rows.{Row}
use Rattle.program_parts.specs.Tables.{HasRead, ReadsOn}
use Rattle.program_parts.specs.Written.{Writes}
use Rattle.program_parts.specs.declared.records.Format.{Format}
use Rattle.program_parts.specs.declared.table.Table.{Table}
use Rattle.index_reader.proofs.Read.{all_read, keys_whole}
use Rattle.index_reader.specs.Answers.{answers, found_rows, has_key, of_key}
use Rattle.index_reader.specs.Runs.{Answers, AnswersBy, IsIndex, header}

-- for the same keys the same is found
pub same_found : (rows : List Row) (places : List ℕ) (index : List Record)
    → ((key : Record) → map (λ row. row.rest) (of_key key rows) ≡ filter (has_key places key) index)
    → (keys : List Record) → found_rows rows keys ≡ answers places index keys
same_found rows places index found [] = refl
same_found rows places index found (key ∷ keys) = λ i. found key i ++ same_found rows places index found keys i

module _ {R W : Type 0} (remaining : R → Option (List ℕ)) (contents : W → Option (List ℕ)) (format : Format) (input : Option (List ℕ))
    (rows : List Row) (before : Writer W) where
  -- all queries that are read are answered
  pub record AreAnswered (table : Table R) (after : Writer W) : Type 0 where
    pub done : List Row
    pub writes : Writes contents before after (found_rows rows (map (λ row. row.key) done))
    pub read : HasRead remaining (option_map (rows_of format) input) done table
    pub key : table.layout.key.items ≡ range_with_len 0 (width_of table.records)
    pub width : IfSome input (λ bytes. width_of table.records ≡ width_in format bytes)

  pub none_answered : (table : Table R) → IsNew remaining format input table.records
      → table.layout.key.items ≡ range_with_len 0 (width_of table.records) → AreAnswered table before
  none_answered table fresh key = record {
    done = [];
    writes = writes_none contents before;
    read = record { records = []; given = none_given remaining format input table.records fresh; rows_are = refl };
    key = key;
    width = fresh.width;
  }

  -- and those of a block more, which are read in the place of the ones before
  pub more_answered : (old new : Table R) (block : Vec Row Global) (mid after passed : Writer W) → AreAnswered old mid → block.items ≡ []
      → ReadsOn remaining (record old { rows = block }) new
      → Writes contents mid after (found_rows rows (map (λ row. row.key) new.rows.items)) → Writes contents after passed []
      → AreAnswered new passed
  more_answered old new block mid after passed s none reads wrote passes =
      let all = option_map (rows_of format) input in
      let read : HasRead remaining all s.done (record old { rows = block }) =
      record { records = s.read.records; given = s.read.given; rows_are = s.read.rows_are } in
      let more = reads.behind ∙ ap (λ l. l ++ reads.more) none in
      let keys = map-append (λ (row : Row). row.key) s.done new.rows.items in
      let found = flat_map-append (λ key. map (λ (row : Row). row.rest) (of_key key rows)) (map (λ row. row.key) s.done)
      (map (λ row. row.key) new.rows.items) in
      record {
        done = s.done ++ new.rows.items;
        writes = rw (keys, found) (rw append-nil at (writes_both contents before after passed _ _
            (writes_both contents before mid after _ _ s.writes wrote) passes));
        read = subst (λ l. HasRead remaining all (s.done ++ l) new) (sym more) (reads.reads all s.done read);
        key = ap (λ l. l.key.items) reads.stays.layout ∙ s.key ∙ ap (range_with_len 0) (sym reads.stays.width);
        width = subst (λ n. IfSome input (λ bytes. n ≡ width_in format bytes)) (sym reads.stays.width) s.width;
      }

-- all are read
pub all_answered : {R W : Type 0} (remaining : R → Option (List ℕ)) (contents : W → Option (List ℕ)) (format : Format)
    (input : Option (List ℕ)) (rows : List Row) (before after : Writer W) (table : Table R) (is_whole : Bool)
    → AreAnswered remaining contents format input rows before table after → left_of remaining table.records ≡ Some []
    → (is_whole ≡ true → count_of table.records ≡ 0) → IfSome input (λ bytes. AnswersBy contents rows format bytes is_whole before after)
all_answered remaining contents format None rows before after table is_whole s end none = tt
all_answered remaining contents format (Some bytes) rows before after table is_whole s end none =
    let all = all_read remaining format bytes s.done table s.read s.width end in
    let keys = ap (map (λ row. row.key)) all.0
    ∙ keys_whole (width_in format bytes) table.layout (rows_of format bytes) (s.key ∙ ap (range_with_len 0) s.width) in
    record { writes = subst (λ l. Writes contents before after (found_rows rows l)) keys s.writes; whole = λ is. all.1 (none is) }

-- by an index
pub all_done : {R W : Type 0} (contents : W → Option (List ℕ)) (format other : Format) (columns : List (List ℕ)) (a b : Option (List ℕ))
    (index : Table R) (before mid after : Writer W) (i q w : Bool) → IfSome a (λ bytes. IsIndex format bytes columns index)
    → Writes contents before mid (header (names_of index.records))
    → IfSome b (λ bytes. AnswersBy contents index.rows.items other bytes q mid after) → (i ≡ true → count_of index.records ≡ 0)
    → (w ≡ true → (i ≡ true) × (q ≡ true))
    → IfSome a (λ table. IfSome b (λ asked. Answers contents format other columns table asked w before after))
all_done contents format other columns None b index before mid after i q w is names answers none both = tt
all_done contents format other columns (Some table) None index before mid after i q w is names answers none both = tt
all_done contents format other columns (Some table) (Some asked) index before mid after i q w is names answers none both = record {
  places = index.layout.key.items;
  key_at = is.key_at;
  writes =
      rw (is.names, same_found index.rows.items index.layout.key.items (whole_rows format table) is.found (whole_rows other asked)) at
      (writes_both contents before mid after _ _ names answers.writes);
  whole = λ e. let (first, second) = both e in (is.whole (none first), answers.whole second);
}
