use Rattle.std.proofs.Common.{◌≡◌, ◌-◌, ◌<◌, ◌≤◌, length, take}
use Rattle.slice_group_simd.specs.declared.ascii_classes.AsciiClass.{AsciiClass}
use Rattle.slice_group_simd.specs.Counted.{count_of}
use Rattle.slice_group_simd.specs.Starts.{starts}
use Rattle.slice_group_simd.proofs.class_counts.count_classes.Given as goal

abbrev pub invariant-loop-at : goal.invariant-loop-at
invariant-loop-at l = record {
  some : 0 < l.at;
  within : l.at ≤ length l.bytes;
  counts : (k : AsciiClass) → count_of k l.counts ≡ starts k l.fn.before (take l.at l.bytes);
}

abbrev pub decreases-loop-at : goal.decreases-loop-at
decreases-loop-at l = length l.bytes - l.at

abbrev pub invariant-loop-at-2 : goal.invariant-loop-at-2
invariant-loop-at-2 l = record {
  some : 0 < l.at;
  within : l.at ≤ length l.bytes;
  counts : (k : AsciiClass) → count_of k l.counts ≡ starts k l.fn.before (take l.at l.bytes);
}

abbrev pub decreases-loop-at-2 : goal.decreases-loop-at-2
decreases-loop-at-2 l = length l.bytes - l.at
