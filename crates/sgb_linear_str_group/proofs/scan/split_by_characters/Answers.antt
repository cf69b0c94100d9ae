use Rattle.std.proofs.Common.{◌≡◌, ℕ, List, refl, subst, ap, sym, ◌∙◌, arith}
use Rattle.std.specs.Borrow.{Bor}
use Rattle.sgb_linear_str_group.specs.Texts.{IsTextAt}
use Rattle.std.proofs.lemmas.Str.{IsCharBoundary-at_seam}
use Rattle.sgb_linear_str_group.proofs.Scanned.{as_they_stand, one_scanned, may_ask, one_more, shorter, refused, found_all}
use Rattle.sgb_linear_str_group.proofs.Cuts.{seam_boundary, front_is, back_is}
use Rattle.sgb_linear_str_group.proofs.scan.split_by_characters.Goals as goal
use Rattle.sgb_linear_str_group.proofs.scan.split_by_characters.Goals.{in-Some+then-not-together, in_default}
use Rattle.sgb_linear_str_group.proofs.scan.split_by_characters.Goals.{in-Front, in-Back, in-Front-end, in-Back-end}

pub loop-beyond-init : goal.loop-beyond-init
loop-beyond-init g c =
    let outermost = c.in_ok-innermost.ensures in
    rw c.as_str-rest.ensures
    (one_scanned g.J.Judge _ _ _ _ _ c.utf8.text (rw c.chars-characters.ensures.rest at outermost.0) outermost.1 c.requires, refl)

pub next_character-requires-in-loop-beyond : goal.next_character-requires-in-loop-beyond
next_character-requires-in-loop-beyond g c = let i = c.loop-beyond.invariant in rw i.1 i.0.rest_utf8

pub ask-together-requires : goal.ask-together-requires
ask-together-requires g c =
    let next = c.in-Some in
    let i = c.loop-beyond.invariant in
    let may = may_ask g.J.Judge _ _ _ _ _ _ i.0 _ _ (rw i.1 at next.ensures.0) next.ensures.1 in
    elim c.match-end.branch [
      | in-Front w ↦ rw (w.in-Front.is, ← w.left-is) at may
      | in-Back w ↦ rw (w.in-Back.is, ← w.left-is) at may
    ]

pub loop-beyond-smaller : goal.loop-beyond-smaller
loop-beyond-smaller g c =
    let next = c.in-Some in
    let i = c.loop-beyond.invariant in
    rw c.as_str-rest-in-Some.ensures (shorter g.J.Judge _ _ _ _ _ _ i.0 _ _ (rw i.1 at next.ensures.0) next.ensures.1)

pub loop-beyond-preserved : goal.loop-beyond-preserved
loop-beyond-preserved g c =
    let next = c.in-Some in
    let pair : c.match-end.left ≡ as_they_stand c.args.end c.loop-beyond.innermost next.beyond = elim c.match-end.branch [
      | in-Front w ↦ rw w.in-Front.is w.left-is
      | in-Back w ↦ rw w.in-Back.is w.left-is
    ] in
    let i = c.loop-beyond.invariant in
    rw c.as_str-rest-in-Some.ensures
    (one_more g.J.Judge _ _ _ _ _ _ i.0 _ _ (rw i.1 at next.ensures.0) next.ensures.1 _ (rw pair at c.if-not-together.ensures), refl)

pub range-group-requires-clause-end_boundary : goal.range-group-requires-clause-end_boundary
range-group-requires-clause-end_boundary g c =
    let i = c.loop-beyond.invariant.0 in
    seam_boundary _ _ _ (rw c.in-Front-end.is at i.cut) i.rest_utf8

pub range_from-group-requires : goal.range_from-group-requires
range_from-group-requires g c =
    let i = c.loop-beyond.invariant.0 in
    λ _. IsCharBoundary-at_seam _ _ _ (rw c.in-Back-end.is at i.cut) i.group_utf8

pub returns : goal.returns
returns g c =
    let i = c.loop-beyond.invariant.0 in
    let same = c.loop-beyond.invariant.1 in
    let at_group = λ (group : List ℕ). IsTextAt g.J.Judge c.args.end
    (record { text = c.args.text.now; judge = c.args.judge.now }) group
    (record { text = c.loop-beyond.rest.now; judge = c.match-next_character.judge }) in
    let found : at_group i.group = elim c.match-next_character.branch [
      | in_default w ↦ rw w.judge-is (found_all g.J.Judge _ _ _ _ _ _ i (sym same ∙ w.in_default.ensures))
      | in-Some+then-not-together w ↦
          let next = w.in-Some in
          let pair : w.match-end.left ≡ as_they_stand c.args.end c.loop-beyond.innermost next.beyond = elim w.match-end.branch [
            | in-Front v ↦ rw v.in-Front.is v.left-is
            | in-Back v ↦ rw v.in-Back.is v.left-is
          ] in
          rw w.judge-is
          (refused g.J.Judge _ _ _ _ _ _ i _ _ (sym same ∙ next.ensures.0) next.ensures.1 _ (rw pair at w.if-not-together.ensures))
    ] in
    let group : c.match-end-2.group.now ≡ i.group = elim c.match-end-2.branch [
      | in-Front-end w ↦
          ap (λ (b : Bor (List ℕ)). b.now) w.group-is ∙ w.range-group.ensures.value
          ∙ front_is _ _ _ (rw w.in-Front-end.is at i.cut) _ (omega arith)
      | in-Back-end w ↦
          ap (λ (b : Bor (List ℕ)). b.now) w.group-is ∙ w.range_from-group.ensures.value ∙ back_is _ _ _ (rw w.in-Back-end.is at i.cut)
    ] in
    subst at_group (sym group) found
