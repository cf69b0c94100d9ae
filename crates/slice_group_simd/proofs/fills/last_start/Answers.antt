use Rattle.std.proofs.Common.{◌+◌, ◌-◌, ◌∙◌, length, sym, arith}
use Rattle.sgb_numbers.proofs.Reversed.{differs_reverse, same_reverse}
use Rattle.slice_group_simd.proofs.Lowest.{lowest}
use Rattle.slice_group_simd.proofs.Known.{first_few, end_after, end_same, end_differs, end_mask}
use Rattle.slice_group_simd.proofs.fills.last_start.Goals as goal

pub overflow_add-result : goal.overflow_add-result
overflow_add-result g c =
    let r = c.requires in
    let small = c.ranges.back.fits in
    omega (arith, first_few r.some small r.mask, end_after r.some small r.mask, c.ranges.high.fits)

pub returns : goal.returns
returns g c =
    let eq = g.M.Masks.same in
    let symm = g.met.M.Masks.laws.symm in
    let xs = c.args.slice.now in
    let some = c.requires.some in
    let small = c.ranges.back.fits in
    let mask = c.requires.mask in
    let after = end_after some small mask in
    let few = first_few some small mask in
    let end = length xs - (c.args.base + (64 - lowest c.args.back some small)) in
    record {
      nonempty = omega arith;
      within = omega arith;
      same = same_reverse eq symm xs _ _ _ _ (omega arith) (omega arith) (end_same some small mask end (omega arith));
      differ = sym (differs_reverse eq symm xs _ _ (omega arith)) ∙ end_differs some small mask end (omega arith);
      mask = end_mask some small mask end (omega arith);
    }
