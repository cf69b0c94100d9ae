use Rattle.std.proofs.lemmas.Result.{on_ok_weaker}
use Rattle.program_parts.proofs.Appended.{appends_both}
use Rattle.token_counter.proofs.report.write_report.Goals as goal

pub returns : goal.returns
returns g c =
    let first = c.in_ok-writeln.ensures.bytes in
    let second = c.in_ok-writeln-2.ensures.bytes in
    let third = c.in_ok-writeln-3.ensures.bytes in
    on_ok_weaker c.writeln-4.result
    (λ last. appends_both _ _ _ _ _ (appends_both _ _ _ _ _ (appends_both _ _ _ _ _ first second) third) last)
    c.writeln-4.ensures.bytes
