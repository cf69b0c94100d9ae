-- Rows that are written one after another.
use Rattle.std.proofs.Common.{◌≡◌, ℕ, ◌+◌, List, [], ◌∷◌, ◌++◌, take, map, flat_map, Option}
use Rattle.std.proofs.Common.{refl, sym, ap, ◌∙◌, subst}
use Rattle.std.proofs.lemmas.Grind.{flat_map-append}
use Rattle.std.proofs.lemmas.List.{append-nil, map-append}
use Rattle.csv.specs.Writing.{row_text}
use Rattle.csv.specs.declared.writer.Writer.{Writer}
use Rattle.program_parts.proofs.Appended.{appends_both, appends_nothing}
use Rattle.program_parts.specs.Records.{Record}
use Rattle.program_parts.specs.Written.{Writes, setup_of}

module _ {W : Type 0} (contents : W → Option (List ℕ)) where
  pub writes_none : (out : Writer W) → Writes contents out out []
  writes_none out = record { writes = λ delimiter ready. (ready, appends_nothing _ [] refl) }

  pub writes_both : (a b c : Writer W) (rows more : List Record) → Writes contents a b rows → Writes contents b c more
      → Writes contents a c (rows ++ more)
  writes_both a b c rows more p q = record {
    writes =
        λ delimiter ready.
        let (between, first) = p.writes delimiter ready in
        let (after, then) = q.writes delimiter between in
        (after, rw (flat_map-append (row_text (setup_of delimiter)) rows more) (appends_both _ _ _ _ _ first then));
  }

  -- the rows of one element more
  pub writes_more : {X : Type 0} (a b c : Writer W) (f : X → List Record) (xs : List X) (i : ℕ) (x : X)
      → take (i + 1) xs ≡ take i xs ++ x ∷ [] → Writes contents a b (flat_map f (take i xs)) → Writes contents b c (f x)
      → Writes contents a c (flat_map f (take (i + 1) xs))
  writes_more a b c f xs i x next p q =
      let e = ap (flat_map f) next ∙ flat_map-append f (take i xs) (x ∷ []) ∙ ap (λ t. flat_map f (take i xs) ++ t) (append-nil (f x)) in
      subst (Writes contents a c) (sym e) (writes_both a b c _ _ p q)

  -- and the one of it
  pub writes_one_more : {X : Type 0} (a b c : Writer W) (f : X → Record) (xs : List X) (i : ℕ) (x : X)
      → take (i + 1) xs ≡ take i xs ++ x ∷ [] → Writes contents a b (map f (take i xs)) → Writes contents b c (f x ∷ [])
      → Writes contents a c (map f (take (i + 1) xs))
  writes_one_more a b c f xs i x next p q =
      let e = ap (map f) next ∙ map-append f (take i xs) (x ∷ []) in
      subst (Writes contents a c) (sym e) (writes_both a b c _ _ p q)
