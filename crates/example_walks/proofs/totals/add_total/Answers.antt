use Rattle.std.proofs.Common.{rules}
use Rattle.example_walks.specs.Totals.{larger_total}
use Rattle.example_walks.proofs.totals.add_total.Goals as goal

pub returns-in-Some : goal.returns-in-Some
returns-in-Some c =
    rw (c.if-begins.false, c.sum_from-total.ensures)
    (c.last_changes.ensures (λ total. larger_total total c.args.part.now) c.args.found.now.items _ c.in-Some.total.now (search rules) c.in-Some.ensures.value)
