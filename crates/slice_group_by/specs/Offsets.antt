-- Groups with the offsets at which they begin in the input: elements of a slice, bytes of a text.
use Rattle.std.specs.Prelude.{◌≡◌, ℕ, ◌+◌, ◌<◌, ◌^◌, List, [], ◌∷◌, length, Option, option_map, IfSome}
use Rattle.std.specs.Iterator.{Count, at_most}
use Rattle.sgb_split.specs.Calls.{Place, StandsAt, place_after}
use Rattle.sgb_split.specs.Split.{put_at}
use Rattle.sgb_split.specs.declared.end.End.{End}
use Rattle.sgb_split.specs.declared.end.End.TheVariants.{Front, Back}
use Rattle.slice_group_by.specs.declared.adapters.offsets.WithOffsets.{WithOffsets}

-- each part with the sum of the lengths of those before it, and n
abbrev pub with_offsets : {U : Type 0} → ℕ → List (List U) → List (ℕ × List U)
with_offsets n [] = []
with_offsets n (part ∷ parts) = (n, part) ∷ with_offsets (n + length part) parts

-- the groups whose offsets are given
abbrev pub groups_under : {Q : Type 0} → WithOffsets Q → Q
groups_under s = s.groups

-- no more groups come than units are left
abbrev pub offsets_to_come : {Q U : Type 0} → (Q → List U) → WithOffsets Q → Count
offsets_to_come left s = at_most (length (left (groups_under s)))

module _ {Q I U : Type 0} (place : Q → Place U) (left : Q → List U) (units : I → List U) where
  -- a group comes off what remains at the end e, and what remains then begins behind one that came off the front
  pub record TakesUnits (e : End) (q : Q) (group : I) (t : Q) : Type 0 where
    pub nonempty : 0 < length (units group)
    pub part : left q ≡ put_at e (units group) (left t)
    pub moves : place t ≡ place_after e (length (units group)) (place q)

  -- where such a group begins: where what remained began, or behind what remains still
  abbrev pub start_of : End → Q → Q → ℕ
  start_of Front q t = (place q).offset
  start_of Back q t = (place q).offset + length (left t)

  -- it begins there, and stands there in the input
  pub record BeginsAt (e : End) (q : Q) (offset : ℕ) (group : I) (t : Q) : Type 0 where
    pub start : offset ≡ start_of e q t
    pub stands : StandsAt (record { input = (place q).input; offset = offset }) (units group)
    pub fits : offset + length (units group) < 2 ^ 64

  -- what a call at the end gives: a group, and where it begins
  abbrev pub GivesWithOffset : (End → Q → Option I → Q → Type 0) → End → WithOffsets Q → Option (ℕ × I) → WithOffsets Q → Type 0
  GivesWithOffset gives e s item t =
      gives e s.groups (option_map (λ x. x.1) item) t.groups × IfSome item (λ x. BeginsAt e s.groups x.0 x.1 t.groups)
