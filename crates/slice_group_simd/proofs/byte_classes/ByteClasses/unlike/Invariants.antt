use Rattle.std.proofs.Common.{◌≡◌, ◌+◌, ◌-◌, ◌≤◌, map, not}
use Rattle.std.specs.Ordering.{on}
use Rattle.std.specs.Simd.Lanes.{mask_l, chunk}
use Rattle.slice_group_simd.proofs.byte_classes.ByteClasses.unlike.Given as goal

abbrev pub invariant-loop-k : goal.invariant-loop-k
invariant-loop-k g l =
    let same = on g.Self.ByteClasses.class_of g.Self.Class.PartialEq.eq in
    record { most : l.k ≤ 16; mask : l.mask ≡ mask_l (chunk (l.at + l.k) (16 - l.k) (map (λ y. not (same y l.byte)) l.slice)) }

abbrev pub decreases-loop-k : goal.decreases-loop-k
decreases-loop-k g l = l.k
