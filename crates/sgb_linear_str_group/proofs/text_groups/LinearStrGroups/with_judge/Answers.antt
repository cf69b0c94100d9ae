use Rattle.std.proofs.Common.{ap}
use Rattle.std.proofs.lemmas.Str.{IsCharBoundary-start}
use Rattle.sgb_linear_str_group.proofs.Places.{boundary_test, place_or_end_is_place, text_ends}
use Rattle.sgb_linear_str_group.proofs.text_groups.LinearStrGroups.with_judge.Goals as goal

pub returns-clause-text : goal.returns-clause-text
returns-clause-text g c = text_ends _ c.utf8.string

pub returns-clause-place : goal.returns-clause-place
returns-clause-place g c =
    let text = c.args.string.now in
    ap (λ k. record { input = text; offset = k })
    (place_or_end_is_place text 0 ((boundary_test text 0).1 (IsCharBoundary-start text c.utf8.string)))
