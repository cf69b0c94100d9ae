-- Two columns, and the pieces of their rows.
use Rattle.std.specs.Prelude.{◌≡◌, ℕ, ◌+◌, Bool, true, false, List, [], ◌∷◌, ◌++◌, length, map, take, drop}
use Rattle.std.proofs.Common.{refl, sym, ap, ◌∙◌, arith}
use Rattle.std.specs.List.{zip}
use Rattle.std.proofs.Math.Seq.{drop-append_seam, take-append_seam}
use Rattle.std.proofs.lemmas.List.{length-map, map-append, length-append, append_assoc}
use Rattle.std.proofs.lemmas.Slice.Zip.{firsts-zip, seconds-zip}
use Rattle.sgb_split.specs.Split.{concat, put_before, split}
use Rattle.sgb_split.proofs.Splits.Split.{split_is}
use Rattle.slice_group_by.specs.Offsets.{with_offsets}

module _ {A B : Type 0} (p : A → A → Bool) where
  abbrev key : A × B → A
  key row = row.0

  abbrev value : A × B → B
  value row = row.1

  abbrev by_key : A × B → A × B → Bool
  by_key r s = p (key r) (key s)

  abbrev columns : List (A × B) → List A × List B
  columns rows = (map key rows, map value rows)

  -- a piece of the keys, and the values at its places
  abbrev with_values : List B → ℕ × List A → List A × List B
  with_values values x = (x.1, take (length x.1) (drop x.0 values))

  -- the keys of pieces by the key are the pieces of the keys
  keys_before : (b : Bool) (x : A × B) (gs : List (List (A × B)))
      → map (map key) (put_before by_key b x gs) ≡ put_before p b (key x) (map (map key) gs)
  keys_before true x [] = refl
  keys_before true x (g ∷ gs) = refl
  keys_before false x gs = refl

  keys_split : (rows : List (A × B)) → map (map key) (split by_key rows) ≡ split p (map key rows)
  keys_split [] = refl
  keys_split (x ∷ []) = refl
  keys_split (x ∷ y ∷ ys) =
      keys_before (by_key x y) x (split by_key (y ∷ ys)) ∙ ap (put_before p (by_key x y) (key x)) (keys_split (y ∷ ys))

  beside : (n m : ℕ) (before part after : List B) → n ≡ length before → m ≡ length part → take m (drop n (before ++ (part ++ after))) ≡ part
  beside n m before part after e f = rw (e, f, drop-append_seam before (part ++ after)) (take-append_seam part after)

  -- the places of the pieces of keys cut the values into those of the pieces of rows
  cut : (n : ℕ) (before : List B) (gs : List (List (A × B))) → n ≡ length before
      → map (with_values (before ++ map value (concat gs))) (with_offsets n (map (map key) gs)) ≡ map columns gs
  cut n before [] e = refl
  cut n before (g ∷ gs) e =
      let same : length (map key g) ≡ length (map value g) = length-map g key ∙ sym (length-map g value) in
      let whole : before ++ map value (concat (g ∷ gs)) ≡ before ++ (map value g ++ map value (concat gs)) =
      ap (λ l. before ++ l) (map-append value g (concat gs)) in
      let head : with_values (before ++ map value (concat (g ∷ gs))) (n, map key g) ≡ columns g =
      ap (λ l. (map key g, l))
      (ap (λ l. take (length (map key g)) (drop n l)) whole ∙ beside n (length (map key g)) before (map value g) (map value (concat gs)) e same) in
      let more : before ++ map value (concat (g ∷ gs)) ≡ (before ++ map value g) ++ map value (concat gs) =
      whole ∙ sym (append_assoc before (map value g) (map value (concat gs))) in
      let len : n + length (map key g) ≡ length (before ++ map value g) = omega (arith, e, same, length-append before (map value g)) in
      let tail = cut (n + length (map key g)) (before ++ map value g) gs len in
      λ i. head i ∷ ((ap (λ l. map (with_values l) (with_offsets (n + length (map key g)) (map (map key) gs))) more ∙ tail) i)

  pub columns_split : (keys : List A) (values : List B) → length values ≡ length keys
      → map (with_values values) (with_offsets 0 (split p keys)) ≡ map columns (split by_key (zip keys values))
  columns_split keys values same =
      let gs = split by_key (zip keys values) in
      let seconds : map value (concat gs) ≡ values = ap (map value) (split_is by_key (zip keys values)).covers ∙ seconds-zip keys values same in
      rw (seconds, keys_split (zip keys values), firsts-zip keys values same) at (cut 0 [] gs refl)
