use Rattle.std.proofs.Common.{refl, arith}
use Rattle.sgb_split.proofs.Lists.Places.{stands}
use Rattle.sgb_linear_str_group.specs.Texts.{lies_between_characters}
use Rattle.sgb_linear_str_group.proofs.Places.{place_or_end_is_boundary, place_or_end_is_place, place_within}
use Rattle.sgb_linear_str_group.proofs.text_groups.LinearStrGroups.offset.Goals as goal

pub returns-clause-stands : goal.returns-clause-stands
returns-clause-stands g c =
    let s = c.args.self.now in
    let text = s.string.now in
    stands (lies_between_characters text) text (place_within text) s.low s.high _ (place_or_end_is_boundary text s.low).0
    (place_or_end_is_place text s.low) _ refl

pub returns-clause-boundary : goal.returns-clause-boundary
returns-clause-boundary g c = rw (c.place_or_end.ensures) (place_or_end_is_boundary _ _)

pub returns-clause-fits : goal.returns-clause-fits
returns-clause-fits g c = omega (arith, c.place_or_end.ensures, (returns-clause-stands g c).within)
