use Rattle.std.proofs.Common.{sym, refl, ◌∙◌, arith}
use Rattle.sgb_split.proofs.Lists.Between.{between_places, between_empty}
use Rattle.sgb_linear_str_group.specs.Texts.{lies_between_characters}
use Rattle.sgb_linear_str_group.proofs.Places.{boundary_test, boundary_of_text, boundary_of_front}
use Rattle.sgb_linear_str_group.proofs.text_groups.part.Goals as goal
use Rattle.sgb_linear_str_group.proofs.text_groups.part.Goals.{else-low-high-via-then-low-high+then-is_char_boundary+else-is_boundary}
use Rattle.sgb_linear_str_group.proofs.text_groups.part.Goals.{else-low-high-via-then-low-high+else-is_char_boundary}
use Rattle.sgb_linear_str_group.proofs.text_groups.part.Goals.{else-low-high-via-else-low-high}

pub returns-then-is_boundary-clause-value : goal.returns-then-is_boundary-clause-value
returns-then-is_boundary-clause-value c =
    let text = c.args.string.now in
    let high_is = c.if-is_char_boundary.ensures.test.0 refl in
    let low_is = boundary_of_text _ _ _ _ (omega arith) high_is.0 c.range.ensures.value (c.if-is_boundary.ensures.0 refl) in
    c.range-then-is_boundary.ensures.value
    ∙ sym (between_places (lies_between_characters text) text _ _
    (record { order = omega arith; low_is = (boundary_test text _).1 low_is; high_is = (boundary_test text _).1 high_is }))

-- one of the three tests fails, where both places would pass all
pub returns-else-low-high-clause-value : goal.returns-else-low-high-clause-value
returns-else-low-high-clause-value c =
    let text = c.args.string.now in
    sym (between_empty (lies_between_characters text) text _ _ (λ places.
    let low_is = (boundary_test text _).0 places.low_is in
    let high_is = (boundary_test text _).0 places.high_is in
    elim c.else-low-high.branch [
      | else-low-high-via-then-low-high+then-is_char_boundary+else-is_boundary w ↦
          let front_is = boundary_of_front _ _ _ _ (omega arith) high_is.0 w.range.ensures.value low_is in
          grind (arith, w.if-is_boundary.ensures.1 front_is)
      | else-low-high-via-then-low-high+else-is_char_boundary w ↦ grind (arith, w.if-is_char_boundary.ensures.test.1 high_is)
      | else-low-high-via-else-low-high w ↦ omega arith
    ]))
