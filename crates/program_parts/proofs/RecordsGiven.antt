-- The rows that a reader gave so far, and what is kept of them.
use Rattle.std.proofs.Common.{◌≡◌, ◌≢◌, ℕ, ◌+◌, ◌-◌, ◌^◌, List, [], ◌∷◌, ◌++◌, length, length-append, min, Bool, true, false}
use Rattle.std.proofs.Common.{Option, None, Some, IfSome, refl, sym, ap, ◌∙◌, arith, append_assoc, append-nil}
use Rattle.std.specs.Prelude.{option_map}
use Rattle.std.specs.List.{filter, filter_map}
use Rattle.std.proofs.lemmas.Bool.Decides.{nat_tests}
use Rattle.std.proofs.lemmas.List.Elements.{filter-append, filter_map-append}
use Rattle.program_parts.specs.Records.{Record, Gives, has_width, rows_of}
use Rattle.program_parts.specs.RecordsLeft.{GivenSoFar, HasGiven, IsNew, count_of, left_of, width_of}
use Rattle.program_parts.specs.Said.{AreSaid, HasSaid}
use Rattle.program_parts.specs.declared.records.Format.{Format}
use Rattle.program_parts.specs.declared.records.Records.{Records}

gives_more : (a b c : Option (List Record)) (given more : List Record) → Gives a b given → Gives b c more → Gives a c (given ++ more)
gives_more None b c given more p q = tt
gives_more (Some xs) None c given more p q = absurd p
gives_more (Some xs) (Some ys) None given more p q = absurd q
gives_more (Some xs) (Some ys) (Some zs) given more p q = p ∙ ap (λ l. given ++ l) q ∙ sym (append_assoc given more zs)

is_wide : (width : ℕ) (row : Record) → length row ≡ width → has_width width row ≡ true
is_wide width row len = grind (nat_tests, arith)

is_other : (width : ℕ) (row : Record) → length row ≢ width → has_width width row ≡ false
is_other width row len = grind (nat_tests, arith)

module _ (width : ℕ) (all a b : Option (List Record)) (rows : List Record) (count count' : ℕ) (s : GivenSoFar width all a rows count) where
  -- no record is given
  pub none_more : Gives a b [] → count' ≡ count → GivenSoFar width all b rows count'
  none_more gives same = record {
    given = s.given;
    gives = rw (append-nil s.given) at (gives_more all a b s.given [] s.gives gives);
    rows_are = s.rows_are;
    whole = λ none. s.whole (sym same ∙ none);
  }

  module _ (row : Record) (gives : Gives a b (row ∷ [])) where
    -- one row more
    pub row_more : length row ≡ width → count' ≡ count → GivenSoFar width all b (rows ++ row ∷ []) count'
    row_more len same = record {
      given = s.given ++ row ∷ [];
      gives = gives_more all a b s.given (row ∷ []) s.gives gives;
      rows_are = ap (λ l. l ++ row ∷ []) s.rows_are ∙ sym (filter-append (has_width width) s.given (row ∷ [])
          ∙ ap (λ l. filter (has_width width) s.given ++ l) (rw (is_wide width row len) refl));
      whole = λ none. ap (λ l. l ++ row ∷ []) (s.whole (sym same ∙ none));
    }

    -- one record of another width, which is left out
    pub other_more : length row ≢ width → count' ≡ min (count + 1) (2 ^ 64 - 1) → GivenSoFar width all b rows count'
    other_more len counts = record {
      given = s.given ++ row ∷ [];
      gives = gives_more all a b s.given (row ∷ []) s.gives gives;
      rows_are = s.rows_are ∙ sym (filter-append (has_width width) s.given (row ∷ [])
          ∙ ap (λ l. filter (has_width width) s.given ++ l) (rw (is_other width row len) refl) ∙ append-nil _);
      whole = λ none. absurd (omega (arith, counts, none));
    }

-- of a table of which none is given yet
pub none_given : {R : Type 0} (remaining : R → Option (List ℕ)) (format : Format) (input : Option (List ℕ)) (records : Records R)
    → IsNew remaining format input records → HasGiven remaining (option_map (rows_of format) input) [] records
none_given remaining format input records new =
    record { given = []; gives = new.left; rows_are = refl; whole = λ none. refl }

-- all are given
pub all_given : (width : ℕ) (all rows : List Record) (count : ℕ) → GivenSoFar width (Some all) (Some []) rows count
    → (rows ≡ filter (has_width width) all) × (count ≡ 0 → rows ≡ all)
all_given width all rows count s =
    let is : all ≡ s.given = s.gives ∙ append-nil s.given in (
      s.rows_are ∙ ap (filter (has_width width)) (sym is),
      λ none. s.whole none ∙ sym is,
    )

module _ {A R : Type 0} (says : Record → Option A) (remaining : R → Option (List ℕ)) (format : Format) (input : Option (List ℕ)) where
  abbrev Said : List A → Records R → Type 0
  Said = HasSaid says remaining format input

  abbrev Given : List Record → Records R → Type 0
  Given = HasGiven remaining (option_map (rows_of format) input)

  -- nothing is said yet
  pub none_said : (records : Records R) → IsNew remaining format input records → Said [] records
  none_said records new = record {
    width = new.width;
    rows = [];
    given = none_given remaining format input records new;
    kept_are = refl;
    whole = λ none. refl;
  }

  -- after a call of `next`
  module _ (kept : List A) (old new : Records R) (row : List Record) (s : Said kept old) (given : Given (s.rows ++ row) new)
      (count : count_of new ≡ 0 → count_of old ≡ 0) (width : width_of new ≡ width_of old) where
    -- the row says x, and where it is none, nothing is said
    pub more_said : (more : List A) → filter_map says row ≡ more → length more ≡ length row → Said (kept ++ more) new
    more_said more is len =
        let here = length-append kept more in
        let there = length-append s.rows row in
        record {
          width = rw width s.width;
          rows = s.rows ++ row;
          given = given;
          kept_are = rw (filter_map-append says s.rows row, is, s.kept_are) refl;
          whole = λ none. let so = s.whole (count none) in omega (arith, here, there, so, len);
        }

    -- it says nothing, and is left out then
    pub none_more_said : (last : Records R) → filter_map says row ≡ [] → left_of remaining last ≡ left_of remaining new
        → width_of last ≡ width_of new → count_of last ≡ min (count_of new + 1) (2 ^ 64 - 1) → Said kept last
    none_more_said last is left wide counts = record {
      width = rw (wide, width) s.width;
      rows = s.rows ++ row;
      given = rw (left, wide) (record {
        given = given.given;
        gives = given.gives;
        rows_are = given.rows_are;
        whole = λ none. absurd (omega (arith, counts, none));
      });
      kept_are = rw (filter_map-append says s.rows row, is, append-nil (filter_map says s.rows)) s.kept_are;
      whole = λ none. absurd (omega (arith, counts, none));
    }

-- of all rows of an input
pub all_said : {A R : Type 0} (says : Record → Option A) (remaining : R → Option (List ℕ)) (format : Format) (input : Option (List ℕ))
    (kept : List A) (records : Records R) (w : Bool) → HasSaid says remaining format input kept records
    → left_of remaining records ≡ Some [] → (w ≡ true → count_of records ≡ 0) → IfSome input (λ bytes. AreSaid says format bytes kept w)
all_said says remaining format None kept records w s end none = tt
all_said says remaining format (Some bytes) kept records w s end none =
    let all = all_given _ (rows_of format bytes) s.rows _ (rw (s.width, end) at s.given) in record {
      kept_are = s.kept_are ∙ ap (filter_map says) all.0;
      whole = λ is. s.whole (none is) ∙ ap length (all.1 (none is));
    }
