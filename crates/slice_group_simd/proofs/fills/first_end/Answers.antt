use Rattle.std.proofs.Common.{arith}
use Rattle.slice_group_simd.proofs.Known.{first_few, end_after, end_same, end_differs, end_mask}
use Rattle.slice_group_simd.proofs.fills.first_end.Goals as goal

pub overflow_sub-result-2 : goal.overflow_sub-result-2
overflow_sub-result-2 g c = omega (arith, end_after c.requires.some c.ranges.front.fits c.requires.mask)

pub returns : goal.returns
returns g c =
    let some = c.requires.some in
    let small = c.ranges.front.fits in
    let mask = c.requires.mask in
    let after = end_after some small mask in
    let few = first_few some small mask in
    record {
      nonempty = omega arith;
      within = omega arith;
      same = end_same some small mask _ (omega arith);
      differ = end_differs some small mask _ (omega arith);
      mask = end_mask some small mask _ (omega arith);
    }
