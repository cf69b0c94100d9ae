use Rattle.std.proofs.Common.{◌≡◌, ◌<◌, ◌≤◌, Some}
use denote.Param.Always.{always_mut}
use Rattle.std.specs.Prelude.{slice_get, slice_range}
use Rattle.std.specs.Fn.{CalledAtTwo}
use Rattle.sgb_linear_group.specs.Best.{Keeps}
use Rattle.sgb_linear_group.proofs.best.best_place.Given as goal

abbrev pub invariant-loop-i : goal.invariant-loop-i
invariant-loop-i g l =
    (l.low ≤ l.place) × (l.place < l.i) × always_mut g.B.FnMut l.is_worse
    × ((k : _) × (slice_get l.slice l.place ≡ Some k)
    × Keeps (CalledAtTwo g.B.FnMut) l.fn.is_worse (slice_range l.slice l.low l.i) k l.is_worse)
