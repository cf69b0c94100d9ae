use Rattle.std.proofs.Common.{ap, ◌∙◌, arith}
use Rattle.std.specs.Simd.Lanes.{mask_l}
use Rattle.sgb_numbers.specs.Numbers.{boundaries}
use Rattle.sgb_numbers.proofs.Pairs.{length-boundaries}
use Rattle.sgb_numbers.proofs.Reversed.{chunk_reverse}
use Rattle.slice_group_simd.proofs.Joined.{few}
use Rattle.slice_group_simd.proofs.Turned.{mask_turned}
use Rattle.slice_group_simd.proofs.blocks.cuts_back.Goals as goal

pub overflow_cast-cuts : goal.overflow_cast-cuts
overflow_cast-cuts g c = omega (arith, few)

pub returns : goal.returns
returns g c =
    let eq = g.M.Masks.same in
    let xs = c.args.slice.now in
    c.reverse_bits.ensures
    ∙ mask_turned (boundaries eq xs) c.args.at _ (omega (arith, length-boundaries eq xs, c.requires)) c.cuts.ensures
    ∙ ap mask_l (chunk_reverse eq g.met.M.Masks.laws.symm xs c.args.at _ 16 (omega (arith, c.requires)))
