use Rattle.std.proofs.Common.{◌+◌, map, not, refl, arith}
use Rattle.std.proofs.lemmas.List.{length-map}
use Rattle.slice_group_simd.proofs.OneByOne.{few_mapped, map-chunk}
use Rattle.slice_group_simd.proofs.Joined.{block_mask}
use Rattle.slice_group_simd.proofs.blocks.unlike_block.Goals as goal

pub joined-requires : goal.joined-requires
joined-requires g c = (omega (arith, few_mapped), omega (arith, few_mapped), omega (arith, few_mapped), omega (arith, few_mapped))

pub returns : goal.returns
returns g c =
    let xs = c.args.slice.now in
    let test = λ (y : g.row.T.Denot). not (g.M.Masks.same y c.args.one.now) in
    let at = c.args.at in
    omega (
      arith,
      simp map-chunk at (block_mask (map test xs) at _ (at + 16) (at + 32) (at + 48) refl refl refl refl
          (omega (arith, length-map xs test, c.requires))),
    )
