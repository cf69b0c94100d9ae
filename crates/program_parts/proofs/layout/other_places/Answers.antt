use Rattle.std.proofs.Common.{◌≡◌, ◌∙◌, ap, refl, arith, filter, nat_eq, not}
use Rattle.std.specs.List.{list_any, range_with_len}
use Rattle.program_parts.proofs.Places.{place_fails, place_passes}
use Rattle.program_parts.proofs.layout.other_places.Goals as goal
use Rattle.program_parts.proofs.layout.other_places.Goals.{then-not-is_among+in_ok-push, else-not-is_among}

pub loop-place-preserved : goal.loop-place-preserved
loop-place-preserved c =
    elim c.if-not-is_among.branch [
      | then-not-is_among+in_ok-push w ↦
          rw w.others-is (place_passes (λ place. not (list_any (λ other. nat_eq other place) c.args.places.now)) c.loop-place.others.items _
          c.loop-place.place c.loop-place.invariant (rw (rw c.is_among.ensures at w.if-not-is_among.true) refl) w.in_ok-push.ensures)
      | else-not-is_among w ↦
          rw w.others-is (place_fails (λ place. not (list_any (λ other. nat_eq other place) c.args.places.now)) c.loop-place.others.items
          c.loop-place.place c.loop-place.invariant (rw (rw c.is_among.ensures at w.if-not-is_among.false) refl))
    ]

pub returns : goal.returns
returns c =
    let all : c.loop-place.place ≡ c.args.width = omega arith in
    c.loop-place.invariant
    ∙ ap (λ n. filter (λ place. not (list_any (λ other. nat_eq other place) c.args.places.now)) (range_with_len 0 n)) all
