use Rattle.std.proofs.Common.{◌+◌, sym, ap, ◌∙◌, arith}
use Rattle.std.proofs.lemmas.Simd.{length-chunk}
use Rattle.std.specs.Simd.Lanes.{mask_l, chunk}
use Rattle.slice_group_simd.proofs.Codes.{same, classes_mask}
use Rattle.sgb_numbers.proofs.Vectors.{boundaries-chunk}
use Rattle.slice_group_simd.proofs.ascii_classes.AsciiClassesByteClasses.cuts.Goals as goal

pub returns : goal.returns
returns c =
    let xs = c.args.slice.now in
    let at = c.args.at in
    classes_mask (chunk at 16 xs) (chunk (at + 1) 16 xs) _ _ c.codes-first.ensures c.codes-second.ensures
    (length-chunk at 16 xs (omega (arith, c.requires))) (length-chunk (at + 1) 16 xs (omega (arith, c.requires)))
    ∙ ap mask_l (sym (boundaries-chunk same at 16 xs))
