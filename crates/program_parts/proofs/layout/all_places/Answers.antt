use Rattle.std.proofs.Common.{◌≡◌, [], ◌∷◌, ◌++◌, ◌∙◌, ap, sym, arith}
use Rattle.std.specs.List.{range_with_len}
use Rattle.program_parts.proofs.Places.{one_place}
use Rattle.program_parts.proofs.layout.all_places.Goals as goal

pub loop-place-preserved : goal.loop-place-preserved
loop-place-preserved c =
    c.in_ok-push.ensures ∙ ap (λ l. l ++ c.loop-place.place ∷ []) c.loop-place.invariant
    ∙ sym (one_place 0 c.loop-place.place c.loop-place.place (omega arith))

pub returns : goal.returns
returns c =
    let all : c.loop-place.place ≡ c.args.width = omega arith in c.loop-place.invariant ∙ ap (λ n. range_with_len 0 n) all
