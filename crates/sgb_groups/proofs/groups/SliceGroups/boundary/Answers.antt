use Rattle.std.proofs.Common.{◌-◌, arith}
use Rattle.std.proofs.Math.Nat.{add-sub_cancel_left}
use Rattle.sgb_groups.specs.Gives.{groups_of}
use Rattle.sgb_groups.proofs.Boundaries.{ends_group_at, no_sooner}
use Rattle.sgb_groups.proofs.groups.SliceGroups.boundary.Goals as goal

pub returns-clause-inside : goal.returns-clause-inside
returns-clause-inside g c p settled =
    (ends_group_at g.W.Way g.J.Judge p _ (groups_of c.args.self) _ _ (omega arith) c.next_from.ensures.call settled).inside

pub returns-clause-parts : goal.returns-clause-parts
returns-clause-parts g c p settled =
    (ends_group_at g.W.Way g.J.Judge p _ (groups_of c.args.self) _ _ (omega arith) c.next_from.ensures.call settled).parts

pub returns-clause-first : goal.returns-clause-first
returns-clause-first g c p settled n behind =
    no_sooner p _ _ _ (ends_group_at g.W.Way g.J.Judge p _ (groups_of c.args.self) _ _ (omega arith) c.next_from.ensures.call settled)
    n (omega arith)

pub returns-clause-questions : goal.returns-clause-questions
returns-clause-questions g c some inside =
    (c.next_from.new.self.judge, rw (add-sub_cancel_left (c.args.index - 1) _) c.next_from.ensures.call.asked)
