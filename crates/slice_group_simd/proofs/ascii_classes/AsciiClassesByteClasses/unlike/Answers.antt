use Rattle.std.proofs.Common.{ap, ◌∙◌, refl}
use Rattle.std.proofs.lemmas.Simd.{length-chunk, zip2_splat}
use Rattle.std.specs.Prelude.{replicate}
use Rattle.std.specs.Simd.Lanes.{mask_l, chunk}
use Rattle.slice_group_simd.proofs.Codes.{same, classes_mask}
use Rattle.sgb_numbers.proofs.Vectors.{unequal}
use Rattle.slice_group_simd.proofs.ascii_classes.AsciiClassesByteClasses.unlike.Goals as goal

pub returns : goal.returns
returns c =
    let xs = chunk c.args.at 16 c.args.slice.now in
    let long = length-chunk c.args.at 16 c.args.slice.now c.requires in
    classes_mask xs (replicate 16 c.args.byte) _ _ c.codes-bytes.ensures c.codes.ensures long refl
    ∙ ap mask_l (zip2_splat (unequal same) xs 16 c.args.byte long)
