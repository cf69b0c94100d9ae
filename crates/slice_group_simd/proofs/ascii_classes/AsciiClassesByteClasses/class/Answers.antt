use Rattle.std.proofs.Common.{arith}
use Rattle.slice_group_simd.proofs.Codes.{class_read}
use Rattle.slice_group_simd.proofs.ascii_classes.AsciiClassesByteClasses.class.Goals as goal

pub returns : goal.returns
returns c = class_read c.args.byte (omega (arith, c.ranges.byte.fits))
