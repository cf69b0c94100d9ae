use Rattle.std.proofs.Common.{refl, arith, ◌+◌}
use Rattle.sgb_numbers.specs.Numbers.{boundaries}
use Rattle.sgb_numbers.proofs.Pairs.{length-boundaries}
use Rattle.slice_group_simd.proofs.Joined.{few, block_mask}
use Rattle.slice_group_simd.proofs.blocks.block.Goals as goal

pub joined-requires : goal.joined-requires
joined-requires g c = (omega (arith, few), omega (arith, few), omega (arith, few), omega (arith, few))

pub returns : goal.returns
returns g c =
    let bs = boundaries g.M.Masks.same c.args.slice.now in
    omega (
      arith,
      block_mask bs c.args.at _ (c.args.at + 16) (c.args.at + 32) (c.args.at + 48) refl refl refl refl
          (omega (arith, length-boundaries g.M.Masks.same c.args.slice.now, c.requires)),
    )
