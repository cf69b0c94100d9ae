use Rattle.std.proofs.Common.{Some, List, refl, subst, arith}
use Rattle.sgb_split.specs.Judges.{IsCallable}
use Rattle.sgb_groups.proofs.Cuts.{part_is, moved_behind, front_cut, back_cut}
use Rattle.sgb_groups.proofs.groups.SliceGroups.next_at.Goals as goal

pub group_len-len-requires-clause-callable : goal.group_len-len-requires-clause-callable
group_len-len-requires-clause-callable g c =
    let s = c.args.self.now in
    let p = c.in_ok-low.ensures in
    rw (p.0, p.1)
    (subst (λ (ys : List g.row.T.Denot). IsCallable g.J.Judge.may_ask g.J.Judge.answers (g.W.Way.allowed _ ys) s.judge)
    (part_is s.slice.now s.low s.high (omega (arith, p)) (omega (arith, p))) c.requires)

pub returns-in-Front-clause-gives : goal.returns-in-Front-clause-gives
returns-in-Front-clause-gives g c =
    let s = c.args.self.now in
    let p = c.in_ok-low.ensures in
    let e = c.group_len-len.ensures in
    rw (c.in-Front.is, p.0) (record {
      call =
          front_cut (g.W.Way.asks _ _ g.J.Judge) s.slice.now s.low s.high _ _ (omega (arith, p)) _
          e.nonempty (omega (arith, p, e.within)) (rw (c.in-Front.is, p.0, p.1) at e.asked);
      place = moved_behind s.slice.now s.low s.high _ (omega (arith, p)) (omega (arith, p, e.within));
    })

pub returns-in-Front-clause-callable : goal.returns-in-Front-clause-callable
returns-in-Front-clause-callable g c = g.W.Way.keeps _ _ g.J.Judge _ _ (Some _) _ (returns-in-Front-clause-gives g c).call c.requires

pub returns-in-Back-clause-gives : goal.returns-in-Back-clause-gives
returns-in-Back-clause-gives g c =
    let s = c.args.self.now in
    let p = c.in_ok-low.ensures in
    let e = c.group_len-len.ensures in
    rw (c.in-Back.is, p.1) (record {
      call =
          back_cut (g.W.Way.asks _ _ g.J.Judge) s.slice.now s.low s.high _ _ (omega (arith, p)) _
          e.nonempty (omega (arith, p, e.within)) (rw (c.in-Back.is, p.0, p.1) at e.asked);
      place = refl;
    })

pub returns-in-Back-clause-callable : goal.returns-in-Back-clause-callable
returns-in-Back-clause-callable g c = g.W.Way.keeps _ _ g.J.Judge _ _ (Some _) _ (returns-in-Back-clause-gives g c).call c.requires
