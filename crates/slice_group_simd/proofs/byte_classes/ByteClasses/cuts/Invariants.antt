use Rattle.std.proofs.Common.{◌≡◌, ◌+◌, ◌-◌, ◌≤◌, slice_index_or}
use Rattle.std.specs.Ordering.{on}
use Rattle.std.specs.Simd.Lanes.{mask_l, chunk}
use Rattle.sgb_numbers.specs.Numbers.{boundaries}
use Rattle.slice_group_simd.proofs.byte_classes.ByteClasses.cuts.Given as goal

abbrev pub invariant-loop-k : goal.invariant-loop-k
invariant-loop-k g l = record {
  most : l.k ≤ 16;
  next : l.next ≡ g.Self.ByteClasses.class_of (slice_index_or l.slice (l.at + l.k) 0);
  mask : l.mask ≡ mask_l (chunk (l.at + l.k) (16 - l.k) (boundaries (on g.Self.ByteClasses.class_of g.Self.Class.PartialEq.eq) l.slice));
}

abbrev pub decreases-loop-k : goal.decreases-loop-k
decreases-loop-k g l = l.k
