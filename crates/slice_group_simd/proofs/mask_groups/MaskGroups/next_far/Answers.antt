use Rattle.slice_group_simd.proofs.Taken.{front_call, front_place}
use Rattle.slice_group_simd.proofs.mask_groups.MaskGroups.next_far.Goals as goal

pub returns : goal.returns
returns g c =
    let s = c.args.self.now in
    let is = c.far_front-front.ensures.end in
    record {
      call =
          front_call g.J.Masks.same g.J.Judge s.judge (g.met.J.MaskJudge.asks s.judge) (g.met.J.MaskJudge.tells s.judge)
          s.slice.now s.low s.high s.inside _ is;
      place = front_place g.J.Masks.same s.slice.now s.low s.high s.inside _ is;
    }
