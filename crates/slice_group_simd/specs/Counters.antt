-- What a counter of classes says of the bytes that have come.
use Rattle.std.specs.Prelude.{◌≡◌, ℕ, ◌-◌, ◌^◌, List, None, min}
use Rattle.slice_group_simd.specs.Counted.{class_after, class_count, count_of}
use Rattle.slice_group_simd.specs.declared.ascii_classes.AsciiClass.{AsciiClass}
use Rattle.slice_group_simd.specs.declared.class_counter.ClassCounter.{ClassCounter}

-- it has counted their groups, each class up to the greatest number, and knows the class of the last byte
pub record HasTaken (counter : ClassCounter) (bytes : List ℕ) : Type 0 where
  pub counts : (class : AsciiClass) → count_of class counter.counts ≡ min (class_count class None bytes) (2 ^ 64 - 1)
  pub last : counter.last ≡ class_after None bytes
