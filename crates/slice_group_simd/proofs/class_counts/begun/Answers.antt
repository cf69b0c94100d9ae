use Rattle.std.proofs.Common.{◌-◌, get_or, ap, ◌∙◌, arith}
use Rattle.std.specs.Simd.Lanes.{chunk, mask_l}
use Rattle.slice_group_simd.proofs.Beginnings.{counted, boundaries_from}
use Rattle.slice_group_simd.proofs.class_counts.begun.Goals as goal

pub overflow_sub-result : goal.overflow_sub-result
overflow_sub-result c =
    let a = c.args in
    let xs = a.bytes.now in
    let mask = c.requires.mask ∙ ap mask_l (boundaries_from xs a.at 64 c.requires.some (omega (arith, c.requires.room))) in
    omega (arith, counted a.byte (get_or xs (a.at - 1) 0) (chunk a.at 64 xs) _ _ mask c.unlike_block.ensures)

pub returns-clause-count : goal.returns-clause-count
returns-clause-count c =
    let a = c.args in
    let xs = a.bytes.now in
    let mask = c.requires.mask ∙ ap mask_l (boundaries_from xs a.at 64 c.requires.some (omega (arith, c.requires.room))) in
    omega (arith, counted a.byte (get_or xs (a.at - 1) 0) (chunk a.at 64 xs) _ _ mask c.unlike_block.ensures)
