use Rattle.std.proofs.Common.{rules}
use Rattle.example_walks.specs.Runs.{longer_run}
use Rattle.example_walks.proofs.streams.add_run.Goals as goal

pub returns-in-Some : goal.returns-in-Some
returns-in-Some g c =
    rw (c.if-begins.false, c.saturating_add-run.ensures)
    (c.last_changes.ensures (λ run. longer_run run c.args.part.now) c.args.runs.now.items _ c.in-Some.run'.now (search rules) c.in-Some.ensures.value)
