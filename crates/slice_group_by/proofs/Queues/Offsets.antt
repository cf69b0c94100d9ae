-- Where the groups stand in the input that calls give.
use Rattle.std.proofs.Common.{◌≡◌, ℕ, ◌+◌, ◌<◌, ◌^◌, List, [], ◌∷◌, length, Option, None, Some, map, rules}
use Rattle.std.proofs.Common.{refl, ap, ◌∙◌, subst, arith, length-append}
use Rattle.std.specs.Borrow.{Bor}
use Rattle.std.specs.Iterator.{AlwaysYields, MakesProgress, Yields}
use Rattle.std.specs.List.{AllByRecursion}
use Rattle.std.specs.Str.{IsCharBoundary, IsUtf8}
use Rattle.sgb_split.specs.Calls.{Place, StandsAt, place_after}
use Rattle.sgb_split.specs.declared.end.End.{End}
use Rattle.sgb_split.specs.declared.end.End.TheVariants.{Front, Back}
use Rattle.sgb_split.proofs.Lists.Places.{first_stands, second_stands}
use Rattle.sgb_split.specs.declared.judge.Judge.{Ghosts}
use Rattle.sgb_linear_str_group.specs.Texts.{GivesText, text_groups_of, text_place_of}
use Rattle.sgb_linear_str_group.specs.declared.text_groups.LinearStrGroups.{LinearStrGroups}
use Rattle.sgb_linear_str_group.proofs.Places.{part_is_between}
use Rattle.slice_group_by.specs.Offsets.{with_offsets, offsets_to_come, TakesUnits, start_of, BeginsAt, GivesWithOffset}
use Rattle.slice_group_by.specs.declared.adapters.offsets.WithOffsets.{WithOffsets}

module _ {Q I U : Type 0} (place : Q → Place U) (left : Q → List U) (units : I → List U) where
  -- a group that comes off what stands at its place stands behind what is before it
  pub begins : (e : End) (q : Q) (offset : ℕ) (group : I) (t : Q) → TakesUnits place left units e q group t → StandsAt (place q) (left q)
      → (place q).offset + length (left q) < 2 ^ 64 → offset ≡ start_of place left units e q t
      → BeginsAt place left units e q offset group t
  begins Front q offset group t h stands fits start = record {
    start = start;
    stands = rw start (first_stands (place q) (units group) (left t) (subst (StandsAt (place q)) h.part stands));
    fits = omega (arith, start, fits, ap length h.part, length-append (units group) (left t));
  }
  begins Back q offset group t h stands fits start = record {
    start = start;
    stands = rw start (second_stands (place q) (left t) (units group) (subst (StandsAt (place q)) h.part stands));
    fits = omega (arith, start, fits, ap length h.part, length-append (left t) (units group));
  }

  -- less remains after it
  pub fewer : (e : End) (q : Q) (group : I) (t : Q) → TakesUnits place left units e q group t
      → length (left t) + length (units group) ≡ length (left q)
  fewer Front q group t h = omega (arith, ap length h.part, length-append (units group) (left t))
  fewer Back q group t h = omega (arith, ap length h.part, length-append (left t) (units group))

-- the place after a part is taken off is one of the same input
same_input : {U : Type 0} (e : End) (n : ℕ) (p q : Place U) → q ≡ place_after e n p → q.input ≡ p.input
same_input {U} Front n p q h = ap (λ (r : Place U). r.input) h
same_input {U} Back n p q h = ap (λ (r : Place U). r.input) h

-- calls one after another
module _ {Q I U : Type 0} (place : Q → Place U) (left : Q → List U) (units : I → List U) (gives : End → Q → Option I → Q → Type 0)
    (takes : (e : End) (q : Q) (group : I) (t : Q) → gives e q (Some group) t → TakesUnits place left units e q group t) where
  abbrev steps : End → WithOffsets Q → Option (ℕ × I) → WithOffsets Q → Type 0
  steps = GivesWithOffset place left units gives

  abbrev stands_in : List U → ℕ × I → Type 0
  stands_in input x = StandsAt (record { input = input; offset = x.0 }) (units x.1)

  -- each group stands in the input where its offset says
  pub each_stands : (e : End) (q t : WithOffsets Q) (items : List (ℕ × I)) → Yields (steps e) q items t
      → AllByRecursion (stands_in (place q.groups).input) items
  each_stands e q t [] y = tt
  each_stands e q t (x ∷ xs) y = (
    y.1.1.stands,
    subst (λ (input : List U). AllByRecursion (stands_in input) xs)
        (same_input e _ _ _ (takes e q.groups x.1 y.0.groups y.1.0).moves) (each_stands e y.0 t xs y.2),
  )

  -- from the front an offset is the sum of the lengths before it
  pub front_offsets : (q t : WithOffsets Q) (items : List (ℕ × I)) → Yields (steps Front) q items t
      → map (λ x. (x.0, units x.1)) items ≡ with_offsets (place q.groups).offset (map (λ x. units x.1) items)
  front_offsets q t [] y = refl
  front_offsets q t (x ∷ xs) y =
      let moves = (takes Front q.groups x.1 y.0.groups y.1.0).moves in
      let start : x.0 ≡ (place q.groups).offset = y.1.1.start in
      let next : (place y.0.groups).offset ≡ (place q.groups).offset + length (units x.1) = ap (λ (r : Place U). r.offset) moves in
      ap (λ l. (x.0, units x.1) ∷ l) (front_offsets y.0 t xs y.2 ∙ ap (λ n. with_offsets n (map (λ x. units x.1) xs)) next)
      ∙ ap (λ n. (n, units x.1) ∷ with_offsets ((place q.groups).offset + length (units x.1)) (map (λ x. units x.1) xs)) start

  -- less remains after each group
  pub progress : (can : WithOffsets Q → Type 0) (e : End) (q : WithOffsets Q) (r : Option (ℕ × I)) (t : WithOffsets Q) → steps e q r t
      → can t → MakesProgress can (offsets_to_come left) q r t
  progress can e q None t h c = record { on = λ f. tt; keeps = tt; rests = λ f. search rules }
  progress can e q (Some x) t h c =
      let taken = takes e q.groups x.1 t.groups h.0 in
      let less = fewer place left units e q.groups x.1 t.groups taken in
      record { on = λ f. (c, search rules, omega (arith, taken.nonempty, less)); keeps = c; rests = λ f. tt }

  -- what always yields parts yields each with its offset
  pub yields_offsets : (q : WithOffsets Q) (ps : List (List U)) → AlwaysYields (steps Front) (λ x. units x.1) q ps
      → AlwaysYields (steps Front) (λ x. (x.0, units x.1)) q (with_offsets (place q.groups).offset ps)
  yields_offsets q [] h = h
  yields_offsets q (part ∷ ps) h = (
    h.0,
    λ x j g.
        let k = h.1 x j g in
        let moves = (takes Front q.groups x.1 j.groups g.0).moves in
        let next : (place j.groups).offset ≡ (place q.groups).offset + length part =
        ap (λ (r : Place U). r.offset) moves ∙ ap (λ (l : List U). (place q.groups).offset + length l) k.0 in (
          λ i. (g.1.start i, k.0 i),
          subst (λ (n : ℕ). AlwaysYields (steps Front) (λ x. (x.0, units x.1)) j (with_offsets n ps)) next (yields_offsets j ps k.1),
        ),
  )

-- each group of a text begins and ends between characters
module _ {J : Type 0} (g : Ghosts J ℕ) where
  abbrev text_steps : End → WithOffsets (LinearStrGroups J) → Option (ℕ × Bor (List ℕ)) → WithOffsets (LinearStrGroups J) → Type 0
  text_steps = GivesWithOffset text_place_of (λ s. (text_groups_of s).text) (λ group. group.now) (GivesText g)

  pub each_between : (e : End) (q t : WithOffsets (LinearStrGroups J)) (items : List (ℕ × Bor (List ℕ))) → IsUtf8 q.groups.string.now
      → Yields (text_steps e) q items t → AllByRecursion (λ x. IsCharBoundary q.groups.string.now x.0
      × IsCharBoundary q.groups.string.now (x.0 + length x.1.now)) items
  each_between e q t [] u y = tt
  each_between e q t (x ∷ xs) u y =
      let call = y.1.0.call in
      let same = same_input e _ _ _ y.1.0.place in (
        part_is_between _ _ _ u call.group_utf8 call.nonempty y.1.1.stands,
        rw same at (each_between e y.0 t xs (rw same u) y.2),
      )
