-- What calls at the front give of groups with their places and keys.
use Rattle.std.proofs.Common.{◌≡◌, ◌≢◌, ℕ, ◌+◌, List, [], ◌∷◌, length, Option, Some, refl, ap, ◌∙◌, subst}
use Rattle.std.specs.Iterator.{AlwaysYields}
use Rattle.std.specs.List.{AllByRecursion}
use Rattle.sgb_split.specs.Calls.{Place}
use Rattle.sgb_split.specs.declared.end.End.{End}
use Rattle.sgb_split.specs.declared.end.End.TheVariants.{Front}
use Rattle.slice_group_by.specs.Keyed.{GivesWithKey, keyed, keyed_at}
use Rattle.slice_group_by.specs.Offsets.{GivesWithOffset, TakesUnits}
use Rattle.slice_group_by.specs.declared.adapters.keyed.WithKeys.{WithKeys}
use Rattle.slice_group_by.specs.declared.adapters.offsets.WithOffsets.{WithOffsets}

-- the members of `Offsets` and `Keyed`; a group is as long as what it shows, and a call of the key function moves no place
module _ {Q I A K U : Type 0} (place : Q → Place U) (left : Q → List U) (units : I → List U) (gives : End → Q → Option I → Q → Type 0)
    (shows : I → List A) (calls : Q → I → K → Q → Type 0)
    (takes : (e : End) (q : Q) (group : I) (t : Q) → gives e q (Some group) t → TakesUnits place left units e q group t)
    (size : (group : I) → length (units group) ≡ length (shows group))
    (stays : (q : Q) (group : I) (k : K) (t : Q) → calls q group k t → place t ≡ place q) (key : A → K) where
  abbrev steps : End → WithKeys (WithOffsets Q) → Option (K × (ℕ × I)) → WithKeys (WithOffsets Q) → Type 0
  steps = GivesWithKey (GivesWithOffset place left units gives) (λ q item k t. calls q.groups item.1 k t.groups)

  -- what always yields pieces with keys yields each with its place
  pub keys_at : (s : WithKeys (WithOffsets Q)) (ps : List (List A)) → AllByRecursion (λ g. g ≢ []) ps
      → AlwaysYields (steps Front) (λ x. (x.0, shows x.1.1)) s (keyed key ps)
      → AlwaysYields (steps Front) (λ x. (x.0, (x.1.0, shows x.1.1))) s (keyed_at key (place s.groups.groups).offset ps)
  keys_at s [] some yields = yields
  keys_at s ([] ∷ ps) some yields = absurd (some.0 refl)
  keys_at s ((y ∷ ys) ∷ ps) some yields = (
    yields.0,
    λ x j g.
        let next = yields.1 x j g in
        let start = g.1.1.start in
        let moves = (takes Front s.groups.groups x.1.1 g.0.groups g.1.0).moves in
        let offset : (place j.groups.groups).offset ≡ (place s.groups.groups).offset + length (y ∷ ys) =
        ap (λ (p : Place U). p.offset) (stays g.0.groups x.1.1 x.0 j.groups.groups g.2 ∙ moves)
        ∙ ap (λ (n : ℕ). (place s.groups.groups).offset + n) (size x.1.1 ∙ ap (λ (r : K × List A). length r.1) next.0) in (
          λ i. ((next.0 i).0, (start i, (next.0 i).1)),
          subst (λ (n : ℕ). AlwaysYields (steps Front) (λ x. (x.0, (x.1.0, shows x.1.1))) j (keyed_at key n ps)) offset
              (keys_at j ps some.1 next.1),
        ),
  )
