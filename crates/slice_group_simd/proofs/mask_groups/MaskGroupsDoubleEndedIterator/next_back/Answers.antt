use Rattle.std.proofs.Common.{refl, arith}
use Rattle.sgb_numbers.specs.Numbers.{IsLastStart}
use Rattle.slice_group_simd.proofs.Taken.{back_call}
use Rattle.slice_group_simd.proofs.mask_groups.MaskGroupsDoubleEndedIterator.next_back.Goals as goal

pub returns-then-self-start-clause-steps : goal.returns-then-self-start-clause-steps
returns-then-self-start-clause-steps g c =
    let s = c.args.self.now in
    let e = c.last_start-start.ensures in
    let is : IsLastStart g.J.Masks.same s.slice.now s.low s.high c.last_start-start.result =
    record { nonempty = e.nonempty; within = omega (arith, c.if-self-start.true); same = e.same; differ = λ _. e.differ } in
    record {
      call =
          back_call g.J.Masks.same g.J.Judge s.judge (g.met.J.MaskJudge.asks s.judge) (g.met.J.MaskJudge.tells s.judge)
          s.slice.now s.low s.high s.inside c.last_start-start.result is;
      place = refl;
    }

pub invariant_of-self-clause-back_mask : goal.invariant_of-self-clause-back_mask
invariant_of-self-clause-back_mask g c = c.last_start-start.ensures.mask
