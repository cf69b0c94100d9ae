use Rattle.std.proofs.Common.{[], ◌∷◌, ◌++◌, map, Some, None, ◌∙◌}
use Rattle.std.proofs.lemmas.List.{map-append}
use Rattle.slice_group_by.specs.End.TheVariants.{Front, Back}
use Rattle.example_walks.proofs.equal_groups.in_turn.Goals as goal

pub loop-front-preserved-in-Continue-branch-2 : goal.loop-front-preserved-in-Continue-branch-2
loop-front-preserved-in-Continue-branch-2 g c =
    let eq = g.T.PartialEq.eq in
    let i = c.loop-front.invariant in
    let fronts = map (λ g. g.now) c.loop-front.fronts.items in
    let backs = map (λ g. g.now) c.loop-front.backs.items in
    let s = c.loop-front.groups in
    let mid = c.next.new.self in
    let front = c.in-Some.ensures.steps in
    let back = c.in-Some-next_back.ensures.steps in
    let settled = c.calls_take_pieces.ensures.settled eq Front s mid (Some c.in-Some.front) front i.settled in
    record {
      settled = c.calls_take_pieces.ensures.settled eq Back mid c.next_back.new.self (Some c.in-Some-next_back.back) back settled;
      pieces =
          rw (c.in_ok-push.ensures.items, c.in_ok-push-2.ensures.items, map-append, map-append)
          (c.sees_pieces.ensures.ends eq Back mid c.next_back.new.self c.in-Some-next_back.back
          (fronts ++ c.in-Some.front.now ∷ []) backs back settled
          ∙ c.sees_pieces.ensures.ends eq Front s mid c.in-Some.front fronts backs front i.settled ∙ i.pieces);
    }

pub loop-front-preserved : goal.loop-front-preserved
loop-front-preserved g c =
    let eq = g.T.PartialEq.eq in
    let i = c.loop-front.invariant in
    let fronts = map (λ g. g.now) c.loop-front.fronts.items in
    let backs = map (λ g. g.now) c.loop-front.backs.items in
    let s = c.loop-front.groups in
    let mid = c.next.new.self in
    let front = c.in-Some.ensures.steps in
    let none = c.in_default-next_back.ensures.steps in
    let settled = c.calls_take_pieces.ensures.settled eq Front s mid (Some c.in-Some.front) front i.settled in
    record {
      settled = c.calls_take_pieces.ensures.settled eq Back mid c.next_back.new.self None none settled;
      pieces =
          rw (c.in_ok-push.ensures.items, none.1, map-append)
          (c.sees_pieces.ensures.ends eq Front s mid c.in-Some.front fronts backs front i.settled ∙ i.pieces);
    }
