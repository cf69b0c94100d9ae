use Rattle.std.proofs.Common.{ℕ, ◌/◌, ◌^◌, bit_and, refl}
use Rattle.std.proofs.lemmas.Simd.{zip2_of_maps}
use Rattle.slice_group_simd.specs.declared.ascii_classes.TheConstants.{ROWS, COLUMNS, CODES}
use Rattle.slice_group_simd.proofs.Codes.{with_splat, itself, may_look_up, looked_up, codes_are}
use Rattle.slice_group_simd.proofs.ascii_classes.codes.Goals as goal

pub swizzle-row : goal.swizzle-row
swizzle-row c =
    let v = c.args.bytes in
    let long = c.fits-bytes.0 in
    may_look_up v long _ (with_splat v long _ _ 4 (itself v long)) c.fits-bytes.1 refl

pub swizzle-column : goal.swizzle-column
swizzle-column c =
    let v = c.args.bytes in
    let long = c.fits-bytes.0 in
    may_look_up v long _ (with_splat v long _ _ 15 (itself v long)) c.fits-bytes.1 refl

pub swizzle : goal.swizzle
swizzle c =
    let v = c.args.bytes in
    let long = c.fits-bytes.0 in
    let row = looked_up v long _ (with_splat v long (λ (b s : ℕ). b / 2 ^ s) _ 4 (itself v long)) ROWS in
    let column = looked_up v long _ (with_splat v long bit_and _ 15 (itself v long)) COLUMNS in
    may_look_up v long _ (zip2_of_maps bit_and _ _ v row column) c.fits-bytes.1 refl

pub returns : goal.returns
returns c =
    let v = c.args.bytes in
    let long = c.fits-bytes.0 in
    let row = looked_up v long _ (with_splat v long (λ (b s : ℕ). b / 2 ^ s) _ 4 (itself v long)) ROWS in
    let column = looked_up v long _ (with_splat v long bit_and _ 15 (itself v long)) COLUMNS in
    codes_are v c.fits-bytes.1 _ _ (looked_up v long _ (zip2_of_maps bit_and _ _ v row column) CODES) refl
