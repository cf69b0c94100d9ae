use Rattle.std.proofs.Common.{arith}
use Rattle.sgb_numbers.specs.Numbers.{IsFirstEnd}
use Rattle.slice_group_simd.proofs.Taken.{front_call, front_place}
use Rattle.slice_group_simd.proofs.mask_groups.MaskGroupsIterator.next.Goals as goal

pub returns-then-end-self-clause-steps : goal.returns-then-end-self-clause-steps
returns-then-end-self-clause-steps g c =
    let s = c.args.self.now in
    let e = c.first_end-end.ensures in
    let is : IsFirstEnd g.J.Masks.same s.slice.now s.low s.high c.first_end-end.result =
    record { nonempty = e.nonempty; within = omega (arith, c.if-end-self.true); same = e.same; differ = λ _. e.differ } in
    record {
      call =
          front_call g.J.Masks.same g.J.Judge s.judge (g.met.J.MaskJudge.asks s.judge) (g.met.J.MaskJudge.tells s.judge)
          s.slice.now s.low s.high s.inside c.first_end-end.result is;
      place = front_place g.J.Masks.same s.slice.now s.low s.high s.inside c.first_end-end.result is;
    }

pub invariant_of-self-clause-front_mask : goal.invariant_of-self-clause-front_mask
invariant_of-self-clause-front_mask g c = c.first_end-end.ensures.mask
