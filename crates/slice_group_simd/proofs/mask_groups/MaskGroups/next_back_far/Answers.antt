use Rattle.std.proofs.Common.{refl}
use Rattle.slice_group_simd.proofs.Taken.{back_call}
use Rattle.slice_group_simd.proofs.mask_groups.MaskGroups.next_back_far.Goals as goal

pub returns : goal.returns
returns g c =
    let s = c.args.self.now in
    record {
      call =
          back_call g.J.Masks.same g.J.Judge s.judge (g.met.J.MaskJudge.asks s.judge) (g.met.J.MaskJudge.tells s.judge)
          s.slice.now s.low s.high s.inside _ c.far_back-back.ensures.start;
      place = refl;
    }
