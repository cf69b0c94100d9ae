use Rattle.std.proofs.Common.{arith}
use Rattle.slice_group_simd.specs.declared.ascii_classes.AsciiClass.TheVariants.{Letter, Digit, Space, Other}
use Rattle.slice_group_simd.proofs.class_counts.ClassCounts.with_block.Goals as goal

pub overflow_add-result : goal.overflow_add-result
overflow_add-result c = record { fits = omega (arith, c.requires.few Letter, c.requires.room, c.begun.ensures.few) }

pub overflow_add-result-2 : goal.overflow_add-result-2
overflow_add-result-2 c = record { fits = omega (arith, c.requires.few Digit, c.requires.room, c.begun-2.ensures.few) }

pub overflow_add-result-3 : goal.overflow_add-result-3
overflow_add-result-3 c = record { fits = omega (arith, c.requires.few Space, c.requires.room, c.begun-3.ensures.few) }

pub overflow_add-result-4 : goal.overflow_add-result-4
overflow_add-result-4 c = record { fits = omega (arith, c.requires.few Other, c.requires.room, c.begun-4.ensures.few) }
