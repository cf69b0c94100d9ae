use Rattle.std.proofs.Common.{List, take, drop, length, sym, ap, subst, ◌∙◌, arith}
use Rattle.std.proofs.lemmas.List.{take-append-drop, length-append, length-drop}
use Rattle.sgb_split.specs.Calls.{IsCallableBy}
use Rattle.sgb_groups.specs.Gives.{groups_of}
use Rattle.sgb_groups.proofs.groups.SliceGroups.next_from.Goals as goal

pub next_at-requires : goal.next_at-requires
next_at-requires g c =
    let xs = (groups_of c.args.self.now).remainder in
    let at = c.args.place in
    rw (c.skip_front.ensures.remainder, c.skip_front.ensures.judge)
    (g.W.Way.callable_behind _ _ g.J.Judge (take at xs) (drop at xs) _
    (subst (λ (l : List g.row.T.Denot). IsCallableBy (g.W.Way.allowed _) g.J.Judge
    (record { remainder = l; judge = c.args.self.now.judge }))
    (sym (take-append-drop at xs)) c.requires.callable))

pub returns-in-Some-clause-call : goal.returns-in-Some-clause-call
returns-in-Some-clause-call g c =
    rw (← c.skip_front.ensures.remainder, ← c.skip_front.ensures.judge) c.in-Some.ensures.gives.call

pub returns-in-None-clause-call : goal.returns-in-None-clause-call
returns-in-None-clause-call g c =
    absurd (omega (
      arith,
      c.requires.within,
      ap length c.skip_front.ensures.remainder,
      ap length c.in-None.ensures.gives.0,
      length-drop c.args.place (groups_of c.args.self.now).remainder,
    ))

pub returns-in-Some-clause-within : goal.returns-in-Some-clause-within
returns-in-Some-clause-within g c =
    let s = (groups_of c.args.self.now).remainder in
    let t = groups_of c.next_at.new.self in
    omega (
      arith,
      c.requires.within,
      ap length (sym c.skip_front.ensures.remainder ∙ c.in-Some.ensures.gives.call.cut),
      length-append c.in-Some.rest.now t.remainder,
      length-drop c.args.place s,
    )
