use Rattle.std.proofs.Common.{ℕ, ◌+◌, ◌-◌, length, arith}
use Rattle.std.specs.Prelude.{reverse}
use Rattle.std.proofs.lemmas.List.{length-reverse}
use Rattle.sgb_numbers.specs.Numbers.{boundaries}
use Rattle.sgb_numbers.proofs.Pairs.{length-boundaries}
use Rattle.slice_group_simd.proofs.Joined.{few, block_mask}
use Rattle.slice_group_simd.proofs.blocks.block_back.Goals as goal

pub joined-requires : goal.joined-requires
joined-requires g c = (omega (arith, few), omega (arith, few), omega (arith, few), omega (arith, few))

pub returns : goal.returns
returns g c =
    let xs = c.args.slice.now in
    let bs = boundaries g.M.Masks.same (reverse xs) in
    let from = λ (at : ℕ). length xs - 1 - (at + 16) in
    let at = c.args.at in
    omega (
      arith,
      block_mask bs (length xs - 1 - (at + 64)) (from (at + 48)) (from (at + 32)) (from (at + 16)) (from at) (omega arith) (omega arith)
          (omega arith) (omega arith) (omega (arith, length-boundaries g.M.Masks.same (reverse xs), length-reverse xs, c.requires)),
    )
