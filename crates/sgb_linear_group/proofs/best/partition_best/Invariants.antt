use Rattle.std.proofs.Common.{◌≡◌, ◌≤◌, ◌-◌, length, take, drop}
use denote.Param.Always.{always_mut}
use Rattle.std.specs.Fn.{CalledAtTwo}
use Rattle.std.specs.Iterator.{Yields}
use Rattle.std.specs.List.Sorted.{IsPermutation}
use Rattle.sgb_split.specs.Calls.{CallAt, IsCallableBy}
use Rattle.sgb_split.specs.Linear.{LinearQuestions}
use Rattle.sgb_split.specs.Split.{AreNeighbours}
use Rattle.sgb_split.specs.declared.end.End.TheVariants.{Front}
use Rattle.sgb_linear_group.specs.Best.{KeepsOfEach}
use Rattle.sgb_linear_group.proofs.best.partition_best.Given as goal

-- what is kept of the groups so far stands in front, and what is left is as it was
abbrev pub invariant-loop-rest : goal.invariant-loop-rest
invariant-loop-rest g l =
    let judge = g.J.Judge in
    let xs = l.fn.slice in
    (l.kept ≤ l.rest) × (l.rest ≤ length l.slice) × IsPermutation xs l.slice × (drop l.rest l.slice ≡ drop l.rest xs)
    × always_mut g.B.FnMut l.is_worse × IsCallableBy AreNeighbours judge (record { remainder = drop l.rest xs; judge = l.judge })
    × ((groups : _)
    × Yields (CallAt (LinearQuestions judge) Front) (record { remainder = xs; judge = l.fn.judge }) groups
    (record { remainder = drop l.rest xs; judge = l.judge })
    × KeepsOfEach (CalledAtTwo g.B.FnMut) l.fn.is_worse groups (take l.kept l.slice) l.is_worse)

abbrev pub decreases-loop-rest : goal.decreases-loop-rest
decreases-loop-rest g l = length l.initial.slice - l.rest
