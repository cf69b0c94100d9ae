-- The records that a reader has left.
use Rattle.std.proofs.Common.{◌≡◌, ℕ, zero, suc, ◌+◌, ◌<◌, ◌≤◌, List, [], ◌∷◌, length, drop, Bool, true, false, not, ◌&&◌, ◌||◌}
use Rattle.std.proofs.Common.{if◌then◌else◌, Option, None, Some, IfSome, inl, inr, refl, sym, ap, ◌∙◌, arith, add-one}
use Rattle.std.specs.Prelude.{◌⊎◌, option_map, is_none}
use Rattle.csv.specs.Machine.{Read, next_record, ends_at_end, is_end, step, fields_after, field_after}
use Rattle.csv.specs.Reading.{Reached, ReadRecord, Ready, records_from, source_of}
use Rattle.csv.specs.Reading.{reader_trim, took_first}
use Rattle.csv.specs.declared.parser.Config.{Config}
use Rattle.csv.specs.declared.parser.State.{State}
use Rattle.csv.specs.declared.parser.State.TheVariants as st
use Rattle.csv.specs.declared.reader.Headers.{Headers}
use Rattle.csv.specs.declared.reader.Reader.{Reader}
use Rattle.csv.specs.declared.reader.Trim.{Trim}
use Rattle.csv.specs.declared.reader.Trim.TheVariants as trim
use Rattle.csv.proofs.ReadFacts.{rows-end, rows-more}
use Rattle.program_parts.specs.Records.{Record, Gives, first_of}
use Rattle.program_parts.specs.RecordsLeft.{is_plain, is_ready, reader_left}

module _ (cfg : Config) where
  -- what is left behind a record is no more than was left before it
  at_most : (s : State) (fields : List (List ℕ)) (field xs : List ℕ) (p : Read) → next_record cfg s fields field xs ≡ Some p
      → length p.2 ≤ length xs
  unfolding next_record
  at_most s fields field [] p e = by (ends_at_end s) refl
    where
      by : (b : Bool) → ends_at_end s ≡ b → length p.2 ≤ 0
      by true is = let rest : [] ≡ p.2 = cc (rw is at e) in rw (← rest) (omega arith)
      by false is = cc (rw is at e)
  at_most s fields field (c ∷ rest) p e =
      by (is_end (step cfg s c).1) refl (at_most (step cfg s c).0 (fields_after (step cfg s c).1 fields field) (field_after
      (step cfg s c).1 c field) rest p)
    where
      by : (b : Bool) → is_end (step cfg s c).1 ≡ b
          → (next_record cfg (step cfg s c).0 (fields_after (step cfg s c).1 fields field) (field_after
          (step cfg s c).1 c field) rest ≡ Some p
          → length p.2 ≤ length rest) → length p.2 ≤ suc (length rest)
      by true is later = let same : rest ≡ p.2 = cc (rw is at e) in rw (← same) (omega arith)
      by false is later = let least : length p.2 ≤ length rest = later (rw is at e) in omega arith

  -- a record takes a byte, if there is one
  fewer : (s : State) (c : ℕ) (rest : List ℕ) (p : Read) → next_record cfg s [] [] (c ∷ rest) ≡ Some p → length p.2 ≤ length rest
  unfolding next_record
  fewer s c rest p e = by (is_end (step cfg s c).1) refl
    where
      by : (b : Bool) → is_end (step cfg s c).1 ≡ b → length p.2 ≤ length rest
      by true is = let same : rest ≡ p.2 = cc (rw is at e) in rw (← same) (omega arith)
      by false is = at_most _ _ _ rest p (rw is at e)

  none_behind : (n : ℕ) → records_from cfg n st.StartRecord [] ≡ []
  unfolding next_record records_from
  none_behind zero = refl
  none_behind (suc n) = refl

  -- as many turns as bytes, and one more, are enough
  enough : (n k : ℕ) (s : State) (xs : List ℕ) → length xs < n → length xs < k → records_from cfg n s xs ≡ records_from cfg k s xs
  unfolding next_record records_from
  enough zero k s xs l m = absurd (omega arith)
  enough (suc n) zero s xs l m = absurd (omega arith)
  enough (suc n) (suc k) s [] l m = by (ends_at_end s) refl
    where
      by : (b : Bool) → ends_at_end s ≡ b → records_from cfg (suc n) s [] ≡ records_from cfg (suc k) s []
      by true is = rw (is, none_behind n, none_behind k) refl
      by false is = rw is refl
  enough (suc n) (suc k) s (c ∷ rest) l m = by (next_record cfg s [] [] (c ∷ rest)) refl (λ s' xs'. enough n k s' xs')
    where
      by : (o : Option Read) → next_record cfg s [] [] (c ∷ rest) ≡ o
          → ((s' : State) (xs' : List ℕ) → length xs' < n → length xs' < k → records_from cfg n s' xs' ≡ records_from cfg k s' xs')
          → records_from cfg (suc n) s (c ∷ rest) ≡ records_from cfg (suc k) s (c ∷ rest)
      by None is later = rw is refl
      by (Some p) is later =
          let less = fewer s c rest p is in
          rw is (ap (λ (t : List Record). p.0 ∷ t) (later p.1 p.2 (omega (arith, less)) (omega (arith, less))))

  abbrev pub left : State → List ℕ → List Record
  left s xs = records_from cfg (length xs + 1) s xs

  -- one record, and then those behind it
  one_left : (s : State) (xs : List ℕ) (p : Read) → next_record cfg s [] [] xs ≡ Some p → left s xs ≡ p.0 ∷ left p.1 p.2
  unfolding records_from
  one_left s xs p is =
      let most = at_most s [] [] xs p is in
      enough (length xs + 1) (suc (length xs + 1)) s xs (omega arith) (omega arith)
      ∙ rw is (ap (λ (t : List Record). p.0 ∷ t) (enough (length xs + 1) (length p.2 + 1) p.1 p.2 (omega (arith, most)) (omega arith)))

  next_left : (s s' : State) (xs ys : List ℕ) (fields : Record) → Reached cfg s xs (fields ∷ []) s' ys → left s xs ≡ fields ∷ left s' ys
  unfolding Reached
  next_left s s' xs ys fields (p, next, same, (state, rest)) = rw (same, ← state, ← rest) (one_left s xs p next)

  none_left : (s : State) (xs : List ℕ) → next_record cfg s [] [] xs ≡ None → left s xs ≡ []
  unfolding records_from
  none_left s xs is = rw (add-one, is) refl

plain : (t : Trim) → is_plain t ≡ true → t ≡ trim.None
plain trim.None e = refl
plain trim.Headers e = cc
plain trim.Fields e = cc
plain trim.All e = cc

cases : (p f h n : Bool) → (p && (f || (not h && n))) ≡ true → (p ≡ true) × ((f ≡ true) ⊎ ((h ≡ false) × (n ≡ true)))
cases true true h n e = (refl, inl refl)
cases true false false true e = (refl, inr (refl, refl))
cases true false false false e = cc
cases true false true n e = cc
cases false f h n e = cc

no_headers : (o : Option Headers) → is_none o ≡ true → o ≡ None
no_headers None e = refl
no_headers (Some h) e = cc

module _ {R : Type 0} (remaining : R → Option (List ℕ)) where
  ready : (reader : Reader R) → is_ready reader ≡ true → Ready reader × (reader_trim reader ≡ trim.None)
  ready reader e =
      let (p, other) = cases (is_plain reader.trim) reader.first reader.has_headers (is_none reader.headers) e in
      (elim other [ inl first ↦ inl first | inr rest ↦ inr (inr (rest.0, no_headers reader.headers rest.1)) ], plain reader.trim p)

  -- a read gives the next record, or ends the table
  pub next_read : (old new : Reader R) (found : Bool) (fields : Record)
      → ((reader_trim old ≡ trim.None) → Ready old → ReadRecord remaining old new found fields)
      → ((reader_trim old ≡ trim.None) → took_first new ≡ true)
      → Gives (reader_left remaining old) (if found then reader_left remaining new else Some []) (if found then fields ∷ [] else [])
  unfolding Reached
  next_read old new found fields reads first = by (is_ready old) refl
    where
      known : (found : Bool) (y : List ℕ) → is_ready old ≡ true → ReadRecord remaining old new found fields → took_first new ≡ true
          → reader_trim old ≡ trim.None → source_of remaining old ≡ Some y
          → Gives (Some (left old.config old.state y)) (if found then reader_left remaining new else Some [])
          (if found then fields ∷ [] else [])
      known false y is r first unchanged source = none_left old.config old.state y
          (rows-end remaining old new fields old.config y refl source r)
      known true y is r first unchanged source =
          let (z, at_z, one) = rows-more remaining old new fields old.config old.state y y [] refl source (refl, refl) r in
          let still : is_ready new ≡ true = rw (r.3 ∙ unchanged, first) refl in
          rw (still, at_z) (next_left old.config old.state new.state y z fields one
          ∙ ap (λ (cfg : Config). fields ∷ left cfg new.state z) (sym r.2))

      source_by : (o : Option (List ℕ)) → source_of remaining old ≡ o → is_ready old ≡ true
          → Gives (reader_left remaining old) (if found then reader_left remaining new else Some []) (if found then fields ∷ [] else [])
      source_by None source is = rw (is, source) tt
      source_by (Some y) source is =
          let (able, unchanged) = ready old is in
          rw (is, source) (known found y is (reads unchanged able) (first unchanged) unchanged source)

      by : (b : Bool) → is_ready old ≡ b
          → Gives (reader_left remaining old) (if found then reader_left remaining new else Some []) (if found then fields ∷ [] else [])
      by false is = rw is tt
      by true is = source_by (source_of remaining old) refl is

-- the first record was read
module _ (f : List ℕ → List Record) where
  -- it is known, and so is what it determines
  pub first_found : {X : Type 0} (of : Record → X) (x : X) (input : Option (List ℕ)) (behind : Option (List Record)) (fields : Record)
      → Gives (option_map f input) behind (fields ∷ []) → x ≡ of fields → IfSome input (λ bytes. x ≡ of (first_of (f bytes)))
  first_found of x None behind fields gives is = tt
  first_found of x (Some bytes) None fields gives is = absurd gives
  first_found of x (Some bytes) (Some rows) fields gives is = rw gives is

  -- it is none of the rows
  pub first_dropped : (input : Option (List ℕ)) (behind : Option (List Record)) (fields : Record)
      → Gives (option_map f input) behind (fields ∷ [])
      → Gives (option_map (λ bytes. drop 1 (f bytes)) input) behind []
  first_dropped None behind fields gives = tt
  first_dropped (Some bytes) None fields gives = absurd gives
  first_dropped (Some bytes) (Some rows) fields gives = rw gives refl

  -- or it waits
  pub first_waits : (input : Option (List ℕ)) (behind : Option (List Record)) (fields : Record)
      → Gives (option_map f input) behind (fields ∷ [])
      → Gives (option_map f input) (option_map (λ rows. fields ∷ rows) behind) []
  first_waits None behind fields gives = tt
  first_waits (Some bytes) None fields gives = absurd gives
  first_waits (Some bytes) (Some rows) fields gives = gives

  -- there is none
  pub none_found : {X : Type 0} (of : Record → X) (x : X) (input : Option (List ℕ)) → Gives (option_map f input) (Some []) [] → x ≡ of []
      → IfSome input (λ bytes. x ≡ of (first_of (f bytes)))
  none_found of x None gives is = tt
  none_found of x (Some bytes) gives is = rw gives is

  pub none_dropped : (input : Option (List ℕ)) (n : ℕ) → Gives (option_map f input) (Some []) []
      → Gives (option_map (λ bytes. drop n (f bytes)) input) (Some []) []
  none_dropped None n gives = tt
  none_dropped (Some bytes) zero gives = gives
  none_dropped (Some bytes) (suc n) gives = rw gives refl
