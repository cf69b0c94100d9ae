use Rattle.std.proofs.Common.{◌≡◌, false, nat_eq, subst, sym, arith, OnOk}
use Rattle.std.proofs.lemmas.Bool.Decides.{nat_tests}
use Rattle.std.specs.Io.KnownBytes.{Appends}
use Rattle.run_length_coder.proofs.Records.{pair_text}
use Rattle.run_length_coder.proofs.encoder.write_run.Goals as goal

pub returns : goal.returns
returns g c =
    let some : nat_eq c.args.count 0 ≡ false = grind (arith, nat_tests, c.if-count-eq0.false) in
    let is = pair_text c.args.count c.args.byte c.ranges.count.fits (omega (arith, c.ranges.byte.fits)) in
    subst (λ t. OnOk c.writeln.result (Appends (g.W.Write.contents c.args.out.now) (g.W.Write.contents c.writeln.new.self) t))
    (sym (rw some is)) c.writeln.ensures.bytes
