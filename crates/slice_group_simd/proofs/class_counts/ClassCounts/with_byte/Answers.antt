use Rattle.std.proofs.Common.{arith}
use Rattle.slice_group_simd.specs.declared.ascii_classes.AsciiClass.TheVariants.{Letter, Digit, Space, Other}
use Rattle.slice_group_simd.proofs.class_counts.ClassCounts.with_byte.Goals as goal

pub overflow_add-counts : goal.overflow_add-counts
overflow_add-counts c = record { fits = omega (arith, c.requires Letter) }

pub overflow_add-counts-in-Digit : goal.overflow_add-counts-in-Digit
overflow_add-counts-in-Digit c = record { fits = omega (arith, c.requires Digit) }

pub overflow_add-counts-in-Space : goal.overflow_add-counts-in-Space
overflow_add-counts-in-Space c = record { fits = omega (arith, c.requires Space) }

pub overflow_add-counts-in-Other : goal.overflow_add-counts-in-Other
overflow_add-counts-in-Other c = record { fits = omega (arith, c.requires Other) }
