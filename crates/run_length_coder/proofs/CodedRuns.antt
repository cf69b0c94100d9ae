-- Records of runs that are written one after another.
use Rattle.std.proofs.Common.{◌≡◌, ℕ, nat_eq, List, [], ◌∷◌, ◌++◌, flat_map, map, Option}
use Rattle.std.proofs.Common.{Some, refl, ap, sym, ◌∙◌, append_assoc, append-nil, subst}
use Rattle.std.specs.Prelude.{option_map}
use Rattle.std.proofs.lemmas.List.Folds.{flat_map-map}
use Rattle.std.specs.Io.KnownBytes.{Appends}
use Rattle.std.proofs.KnownBytes.{Appends-trans}
use Rattle.slice_group_stream.specs.Split.{last, split, without_last}
use Rattle.slice_group_stream.specs.Streams.{change_last}
use Rattle.run_length_coder.specs.Coding.{coded, run_if, run_of, run_text, text_of, Written}

pub Written-same : (a b : Option (List ℕ)) (runs others : List (ℕ × ℕ)) (byte count : ℕ) → runs ≡ others
    → Written a b runs byte count → Written a b others byte count
Written-same a b runs others byte count e w = subst (λ l. Written a b l byte count) e w

-- a run more
pushed : (runs : List (ℕ × ℕ)) (run : ℕ × ℕ) → (without_last (runs ++ run ∷ []) ≡ runs) × (last (runs ++ run ∷ []) ≡ Some run)
pushed [] run = (refl, refl)
pushed (r ∷ []) run = (refl, refl)
pushed (r ∷ s ∷ rs) run = let h = pushed (s ∷ rs) run in (ap (λ l. r ∷ l) h.0, h.1)

pub Written-begins : (a b : Option (List ℕ)) (runs : List (ℕ × ℕ)) (part : List ℕ) (byte count : ℕ) → Appends a b (flat_map run_text runs)
    → run_if byte count ≡ Some (run_of part) → Written a b (runs ++ run_of part ∷ []) byte count
Written-begins a b runs part byte count w e = let h = pushed runs (run_of part) in record { writes = rw h.0 w; is = e ∙ sym h.1 }

-- the last run changed
changed : (h : ℕ × ℕ → ℕ × ℕ) (runs : List (ℕ × ℕ))
    → (without_last (change_last h runs) ≡ without_last runs) × (last (change_last h runs) ≡ option_map h (last runs))
changed h [] = (refl, refl)
changed h (r ∷ []) = (refl, refl)
changed h (r ∷ s ∷ []) = (refl, refl)
changed h (r ∷ s ∷ t ∷ rs) = let k = changed h (s ∷ t ∷ rs) in (ap (λ l. r ∷ l) k.0, k.1)

pub Written-goes_on : (a b : Option (List ℕ)) (runs : List (ℕ × ℕ)) (byte count more : ℕ) (h : ℕ × ℕ → ℕ × ℕ)
    → Written a b runs byte count → run_if byte more ≡ option_map h (run_if byte count) → Written a b (change_last h runs) byte more
Written-goes_on a b runs byte count more h w e =
    let k = changed h runs in record { writes = rw k.0 w.writes; is = e ∙ ap (option_map h) w.is ∙ sym k.1 }

-- all runs are written with the one that is open
records : (runs : List (ℕ × ℕ)) → flat_map run_text (without_last runs) ++ text_of (last runs) ≡ flat_map run_text runs
records [] = refl
records (r ∷ []) = sym (append-nil (run_text r))
records (r ∷ s ∷ rs) =
    append_assoc (run_text r) (flat_map run_text (without_last (s ∷ rs))) (text_of (last (s ∷ rs)))
    ∙ ap (λ l. run_text r ++ l) (records (s ∷ rs))

pub Written-all : (a b c : Option (List ℕ)) (runs : List (ℕ × ℕ)) (byte count : ℕ) → Written a b runs byte count
    → Appends b c (text_of (run_if byte count)) → Appends a c (flat_map run_text runs)
Written-all a b c runs byte count w more =
    subst (Appends a c) (ap (λ o. flat_map run_text (without_last runs) ++ text_of o) w.is ∙ records runs)
    (Appends-trans a b c (flat_map run_text (without_last runs)) (text_of (run_if byte count)) w.writes more)

pub Written-coded : (a b c : Option (List ℕ)) (bytes : List ℕ) (byte count : ℕ) → Written a b (map run_of (split nat_eq bytes)) byte count
    → Appends b c (text_of (run_if byte count)) → Appends a c (coded bytes)
Written-coded a b c bytes byte count w more =
    subst (Appends a c) (flat_map-map run_text run_of (split nat_eq bytes))
    (Written-all a b c (map run_of (split nat_eq bytes)) byte count w more)
