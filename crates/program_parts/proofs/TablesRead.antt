-- Rows that are read into memory.
use Rattle.std.proofs.Common.{◌≡◌, ℕ, zero, suc, ◌+◌, ◌<◌, ◌≤◌, List, [], ◌∷◌, ◌++◌, length, take, drop, map, flat_map}
use Rattle.std.proofs.Common.{Option, false, refl, sym, ap, ◌∙◌, arith, append_assoc, append-nil, length-append, length-drop}
use Rattle.std.proofs.lemmas.Grind.{flat_map-append}
use Rattle.std.proofs.lemmas.List.{drop-drop, map-append}
use Rattle.std.specs.Cmp.{IsTotalOrder}
use Rattle.std.specs.Cmp.Lexicographic.{lists_total, nat_list_cmp_total}
use Rattle.csv.specs.Records.{fields_of}
use Rattle.program_parts.specs.Records.{Record, field}
use Rattle.program_parts.specs.Rows.{Holds, Row, cut_row, fields_in, key_cmp, row_at}
use Rattle.program_parts.specs.RecordsLeft.{HasGiven}
use Rattle.program_parts.specs.Tables.{ReadsFields, ReadsOn}
use Rattle.program_parts.specs.declared.block.Block.{Block}
use Rattle.program_parts.specs.declared.layout.Layout.{Layout}
use Rattle.program_parts.specs.declared.records.Records.{Records}
use Rattle.program_parts.specs.declared.table.Table.{Table}

pub keys_total : IsTotalOrder key_cmp
keys_total = lists_total nat_list_cmp_total

take_front : {X : Type 0} (xs ys : List X) → take (length xs) (xs ++ ys) ≡ xs
take_front [] ys = refl
take_front (x ∷ xs) ys = ap (λ l. x ∷ l) (take_front xs ys)

drop_front : {X : Type 0} (xs ys : List X) → drop (length xs) (xs ++ ys) ≡ ys
drop_front [] ys = refl
drop_front (x ∷ xs) ys = drop_front xs ys

same_length : {X Y : Type 0} (f : X → Y) (xs : List X) → length (map f xs) ≡ length xs
same_length f [] = refl
same_length f (x ∷ xs) = ap suc (same_length f xs)

module _ (layout : Layout) where
  -- the fields of rows, one behind another
  abbrev pub all_fields : List Record → Record
  all_fields records = flat_map (λ fields. fields_in (row_at layout fields)) records

  -- one row more
  fields_given : (given : List Record) (row fields fields' : Record) → fields ≡ all_fields given
      → fields' ≡ fields ++ fields_in (row_at layout row) → fields' ≡ all_fields (given ++ row ∷ [])
  fields_given given row fields fields' so more =
      more ∙ ap (λ l. l ++ fields_in (row_at layout row)) so
      ∙ sym (flat_map-append (λ fields. fields_in (row_at layout fields)) given (row ∷ [])
      ∙ ap (λ l. all_fields given ++ l) (append-nil _))

  -- one row more is read
  pub read_more : {R : Type 0} (remaining : R → Option (List ℕ)) (old mid new : Records R) (row fields fields' : Record)
      (numbers numbers' : List ℕ) (number : ℕ) → ReadsFields remaining layout old mid fields numbers
      → ((all : Option (List Record)) (records : List Record) → HasGiven remaining all records mid
      → HasGiven remaining all (records ++ row ∷ []) new)
      → fields' ≡ fields ++ fields_in (row_at layout row) → numbers' ≡ numbers ++ number ∷ []
      → ReadsFields remaining layout old new fields' numbers'
  read_more remaining old mid new row fields fields' numbers numbers' number so next more pushed =
      let long = length-append so.given (row ∷ []) in
      let long' = length-append numbers (number ∷ []) in
      let many = ap (λ (l : List ℕ). length l) pushed in
      let count = so.count in
      record {
        given = so.given ++ row ∷ [];
        fields_are = fields_given so.given row fields fields' so.fields_are more;
        count = omega (arith, long, long', many, count);
        gives =
            λ all records given.
            rw (← append_assoc records so.given (row ∷ [])) (next all (records ++ so.given) (so.gives all records given));
      }

  -- none is
  pub read_none : {R : Type 0} (remaining : R → Option (List ℕ)) (old mid new : Records R) (fields : Record) (numbers : List ℕ)
      → ReadsFields remaining layout old mid fields numbers
      → ((all : Option (List Record)) (records : List Record) → HasGiven remaining all records mid
      → HasGiven remaining all (records ++ []) new)
      → ReadsFields remaining layout old new fields numbers
  read_none remaining old mid new fields numbers so next = record {
    given = so.given;
    fields_are = so.fields_are;
    count = so.count;
    gives = λ all records given. rw (append-nil (records ++ so.given)) at (next all (records ++ so.given) (so.gives all records given));
  }

  module _ (key rest at : ℕ) (fields row tail : Record) (k : key ≡ length layout.key.items) (r : rest ≡ length layout.rest.items)
      (is : drop at fields ≡ fields_in (row_at layout row) ++ tail)
    where
      key_is : key ≡ length (row_at layout row).key
      key_is = k ∙ sym (same_length (field row) layout.key.items)

      rest_is : rest ≡ length (row_at layout row).rest
      rest_is = r ∙ sym (same_length (field row) layout.rest.items)

      front_first : drop at fields ≡ (row_at layout row).key ++ ((row_at layout row).rest ++ tail)
      front_first = is ∙ append_assoc (row_at layout row).key (row_at layout row).rest tail

      behind_key : drop (at + key) fields ≡ (row_at layout row).rest ++ tail
      behind_key =
          sym (drop-drop key at fields) ∙ ap (drop key) front_first
          ∙ ap (λ n. drop n ((row_at layout row).key ++ ((row_at layout row).rest ++ tail))) key_is
          ∙ drop_front (row_at layout row).key ((row_at layout row).rest ++ tail)

      -- the row that begins there is this one
      pub cut_is : cut_row key rest at fields ≡ row_at layout row
      cut_is =
          let all = (row_at layout row).rest ++ tail in
          let key_part = ap (take key) front_first ∙ ap (λ n. take n ((row_at layout row).key ++ all)) key_is
          ∙ take_front (row_at layout row).key all in
          let rest_part = ap (take rest) behind_key ∙ ap (λ n. take n all) rest_is ∙ take_front (row_at layout row).rest tail in
          (λ i. record { key = key_part i; rest = rest_part i })

      -- it is all there, and the next one begins behind it
      pub fits : at + length (drop at fields) ≡ length fields → at + key + rest ≤ length fields
      fits long =
          let parts = ap (λ (l : Record). length l) front_first in
          let first = length-append (row_at layout row).key ((row_at layout row).rest ++ tail) in
          let second = length-append (row_at layout row).rest tail in
          let k' = key_is in
          let r' = rest_is in
          omega (arith, parts, first, second, k', r', long)

      pub next_begins : drop (at + (key + rest)) fields ≡ tail
      next_begins =
          let next : at + (key + rest) ≡ at + key + rest = omega arith in
          ap (λ n. drop n fields) next ∙ sym (drop-drop rest (at + key) fields) ∙ ap (drop rest) behind_key
          ∙ ap (λ n. drop n ((row_at layout row).rest ++ tail)) rest_is ∙ drop_front (row_at layout row).rest tail

one_next : (i : ℕ) (records : List Record) → i < length records
    → (row : Record) × (drop i records ≡ row ∷ drop (i + 1) records) × (take (i + 1) records ≡ take i records ++ row ∷ [])
one_next i [] l = absurd (omega (arith, l))
one_next zero (x ∷ xs) l = (x, refl, refl)
one_next (suc i) (x ∷ xs) l =
    let (row, behind, front) = one_next i xs (omega (arith, l)) in
    let e : suc i + 1 ≡ suc (i + 1) = omega arith in (row, rw e behind, rw e (ap (λ l. x ∷ l) front))

-- what is known of the rows of a block up to a place in its fields
pub record CutSoFar (layout : Layout) (block : Block) (records : List Record) (i at : ℕ) (old rows : List Row) : Type 0 where
  pub so_far : rows ≡ old ++ map (row_at layout) (take i records)
  pub behind : drop at (fields_of block.fields) ≡ all_fields layout (drop i records)
  pub inside : at + length (drop at (fields_of block.fields)) ≡ length (fields_of block.fields)

module _ (layout : Layout) (block : Block) (records : List Record) (h : Holds layout records block) (old : List Row) where
  pub none_cut : CutSoFar layout block records 0 0 old old
  none_cut = record { so_far = sym (append-nil old); behind = h.fields; inside = omega arith }

  module _ (i at : ℕ) (rows : List Row) (s : CutSoFar layout block records i at old rows) where
    pub row_inside : i < length records → at + block.key + block.rest ≤ length (fields_of block.fields)
    row_inside l =
        let (row, behind, front) = one_next i records l in
        fits layout block.key block.rest at (fields_of block.fields) row (all_fields layout (drop (i + 1) records)) h.key h.rest
        (s.behind ∙ ap (all_fields layout) behind) s.inside

    pub one_cut : i < length records → (row : Row) (rows' : List Row)
        → row ≡ cut_row block.key block.rest at (fields_of block.fields) → rows' ≡ rows ++ row ∷ []
        → CutSoFar layout block records (i + 1) (at + (block.key + block.rest)) old rows'
    one_cut l row rows' is pushed =
        let (fields, behind, front) = one_next i records l in
        let tail = all_fields layout (drop (i + 1) records) in
        let at_row = s.behind ∙ ap (all_fields layout) behind in
        let all = fields_of block.fields in
        let next = next_begins layout block.key block.rest at all fields tail h.key h.rest at_row in
        let same = is ∙ cut_is layout block.key block.rest at all fields tail h.key h.rest at_row in
        let room = fits layout block.key block.rest at all fields tail h.key h.rest at_row s.inside in
        let long = length-drop (at + (block.key + block.rest)) all in
        record {
          so_far =
              pushed ∙ ap (λ r. rows ++ r ∷ []) same ∙ ap (λ l. l ++ row_at layout fields ∷ []) s.so_far
              ∙ append_assoc old (map (row_at layout) (take i records)) (row_at layout fields ∷ [])
              ∙ ap (λ l. old ++ l) (sym (ap (map (row_at layout)) front ∙ map-append (row_at layout) (take i records) (fields ∷ [])));
          behind = next;
          inside = omega (arith, long, room);
        }

    pub all_cut : i ≡ length records → rows ≡ old ++ map (row_at layout) records
    all_cut all = s.so_far ∙ ap (λ l. old ++ map (row_at layout) l) (ap (λ n. take n records) all ∙ whole records)
      where
        whole : (records : List Record) → take (length records) records ≡ records
        whole [] = refl
        whole (x ∷ xs) = ap (λ l. x ∷ l) (whole xs)

module _ {R : Type 0} (remaining : R → Option (List ℕ)) where
  -- no row is read, and more rows behind those that were
  pub none_read : (table : Table R) → table.is_last ≡ false → ReadsOn remaining table table
  none_read table goes = record {
    stays = record { layout = refl; width = refl; names = refl; end = λ last. cc (sym goes ∙ last) };
    more = [];
    behind = sym (append-nil table.rows.items);
    reads = λ all rows h. rw (append-nil rows) h;
  }

  pub both_read : (a b c : Table R) → ReadsOn remaining a b → ReadsOn remaining b c → ReadsOn remaining a c
  both_read a b c p q = record {
    stays = record {
      layout = q.stays.layout ∙ p.stays.layout;
      width = q.stays.width ∙ p.stays.width;
      names = q.stays.names ∙ p.stays.names;
      end = q.stays.end;
    };
    more = p.more ++ q.more;
    behind = q.behind ∙ ap (λ l. l ++ q.more) p.behind ∙ append_assoc a.rows.items p.more q.more;
    reads = λ all rows h. rw (append_assoc rows p.more q.more) at (q.reads all (rows ++ p.more) (p.reads all rows h));
  }
